-- How a text ends.
use Rattle.snap_explain_unused.proofs.Prelude.{◌≡◌, ◌≢◌, ◌-◌, ℕ, Bool, true, false, List, ◌++◌, length, take, drop, refl, sym, ap, ◌∙◌, arith, length-append, take-append-drop, bytes_eq-Decides, ends_with, before_end}
use Rattle.std.proofs.Math.Seq.{drop-append_seam, take-append_seam}

shorter : (end text front : List ℕ) → text ≡ front ++ end → length text - length end ≡ length front
shorter end text front is = let whole = ap length is ∙ length-append front end in omega (arith, whole)

pub ends_so : (end text front : List ℕ) → text ≡ front ++ end → ends_with end text ≡ true
ends_so end text front is =
    (bytes_eq-Decides (drop (length text - length end) text) end).1
    (ap (λ n. drop n text) (shorter end text front is) ∙ ap (drop (length front)) is ∙ drop-append_seam front end)

pub front_is : (end text front : List ℕ) → text ≡ front ++ end → front ≡ before_end end text
front_is end text front is =
    sym (ap (λ n. take n text) (shorter end text front is) ∙ ap (take (length front)) is ∙ take-append_seam front end)

pub ends_else : (end text : List ℕ) → ((front : List ℕ) → text ≢ front ++ end) → ends_with end text ≡ false
ends_else end text none = by (ends_with end text) refl
  where
    by : (b : Bool) → ends_with end text ≡ b → ends_with end text ≡ false
    by false e = e
    by true e =
        let cut : take (length text - length end) text ++ drop (length text - length end) text ≡ text = take-append-drop (length text - length end) text in
        absurd (none (take (length text - length end) text) (sym cut ∙ ap (λ x. take (length text - length end) text ++ x) ((bytes_eq-Decides (drop (length text - length end) text) end).0 e)))
