-- The last ones of a list that is mapped.
use Rattle.snap_select.proofs.Prelude.{◌≡◌, ℕ, ◌-◌, List, length, take, drop, map, ap, ◌∙◌, arith, drop-map, length-map, length-drop, take_all, last_of}

pub last_of-map : {X Y : Type 0} (f : X → Y) (count : ℕ) (xs : List X) → last_of count (map f xs) ≡ map f (drop (length xs - count) xs)
last_of-map f count xs = ap (λ n. drop (n - count) (map f xs)) (length-map xs f) ∙ drop-map f (length xs - count) xs

-- a range up to the end
pub rest_of : {X : Type 0} (k : ℕ) (xs : List X) → take (length xs - k) (drop k xs) ≡ drop k xs
rest_of k xs = take_all (length xs - k) (drop k xs) (omega (arith, length-drop k xs))
