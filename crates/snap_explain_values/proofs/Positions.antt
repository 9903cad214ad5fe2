-- The position of the first value of a list that passes a test.
use Rattle.snap_explain_values.proofs.Prelude.{◌≡◌, ◌<◌, ◌+◌, ℕ, zero, suc, Bool, true, false, cond, List, [], ◌∷◌, None, Some, length, take, map, get_or, refl, sym, ap, ◌∙◌, arith, or_left, or_right, list_any, position}
use Rattle.std.specs.List.{position_from}
use Rattle.std.proofs.lemmas.Iterator.Adapters.{position_from-zero}

module _ {A : Type 0} (test : A → Bool) where
  found_from : (n : ℕ) (xs : List A) (i : ℕ) (x : A) → i < length xs → x ≡ get_or xs i x → test x ≡ true → list_any test (take i xs) ≡ false → position_from test n xs ≡ Some (n + i)
  found_from n [] i x h is e none = absurd (omega arith)
  found_from n (y ∷ ys) zero x h is e none =
      let same : n ≡ n + 0 = omega arith in
      ap (λ z. cond (test z) (Some n) (position_from test (n + 1) ys)) (sym is) ∙ ap (λ b. cond b (Some n) (position_from test (n + 1) ys)) e ∙ ap Some same
  found_from n (y ∷ ys) (suc i) x h is e none =
      let same : (n + 1) + i ≡ n + suc i = omega arith in
      ap (λ b. cond b (Some n) (position_from test (n + 1) ys)) (or_left (test y) (list_any test (take i ys)) none)
      ∙ found_from (n + 1) ys i x (omega arith) is e (or_right (test y) (list_any test (take i ys)) none) ∙ ap Some same

  none_from : (n : ℕ) (xs : List A) → list_any test xs ≡ false → position_from test n xs ≡ None
  none_from n [] none = refl
  none_from n (y ∷ ys) none =
      ap (λ b. cond b (Some n) (position_from test (n + 1) ys)) (or_left (test y) (list_any test ys) none) ∙ none_from (n + 1) ys (or_right (test y) (list_any test ys) none)

module _ {A B : Type 0} (f : A → B) (test : B → Bool) where
  from_map : (n : ℕ) (xs : List A) → position_from test n (map f xs) ≡ position_from (λ x. test (f x)) n xs
  from_map n [] = refl
  from_map n (x ∷ xs) = ap (cond (test (f x)) (Some n)) (from_map (n + 1) xs)

  -- the first one that passes, and that none does, of a list that is made of another
  pub position_here : (xs : List A) (i : ℕ) (x : A) → i < length xs → x ≡ get_or xs i x → test (f x) ≡ true → list_any (λ y. test (f y)) (take i xs) ≡ false → position test (map f xs) ≡ Some i
  position_here xs i x h is e none =
      let same : 0 + i ≡ i = omega arith in
      position_from-zero test (map f xs) ∙ from_map 0 xs ∙ found_from (λ y. test (f y)) 0 xs i x h is e none ∙ ap Some same

  pub position_nowhere : (xs : List A) → list_any (λ y. test (f y)) xs ≡ false → position test (map f xs) ≡ None
  position_nowhere xs none = position_from-zero test (map f xs) ∙ from_map 0 xs ∙ none_from (λ y. test (f y)) 0 xs none
