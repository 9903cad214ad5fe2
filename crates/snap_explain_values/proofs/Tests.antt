-- Tests of the values of a list, one after the other.
use Rattle.snap_explain_values.proofs.Prelude.{◌≡◌, ◌||◌, ◌<◌, ◌≤◌, ◌+◌, ℕ, zero, suc, Bool, true, false, List, [], ◌∷◌, ◌++◌, length, take, get_or, take_more, take_all, refl, sym, ap, ◌∙◌, arith, list_any, list_any-append}

pub or_second : (a b : Bool) → b ≡ true → (a || b) ≡ true
or_second true b e = refl
or_second false b e = e

pub neither : (a b : Bool) → a ≡ false → b ≡ false → (a || b) ≡ false
neither true b e f = e
neither false b e f = f

module _ {A : Type 0} (test : A → Bool) where
  -- one that passes
  pub any_here : (xs : List A) (i : ℕ) (x : A) → i < length xs → x ≡ get_or xs i x → test x ≡ true → list_any test xs ≡ true
  any_here [] i x h is e = absurd (omega arith)
  any_here (y ∷ ys) zero x h is e = ap (λ z. test z || list_any test ys) (sym is) ∙ ap (λ b. b || list_any test ys) e
  any_here (y ∷ ys) (suc i) x h is e = or_second (test y) (list_any test ys) (any_here ys i x (omega arith) is e)

  -- one more
  pub any_push : (xs : List A) (i : ℕ) (x : A) → i < length xs → x ≡ get_or xs i x → list_any test (take (i + 1) xs) ≡ (list_any test (take i xs) || (test x || false))
  any_push xs i x h is = ap (list_any test) (take_more xs i x h ∙ ap (λ y. take i xs ++ y ∷ []) (sym is)) ∙ list_any-append test (take i xs) (x ∷ [])

  -- none did
  pub any_end : (xs : List A) (i : ℕ) → length xs ≤ i → list_any test (take i xs) ≡ false → list_any test xs ≡ false
  any_end xs i h none = ap (list_any test) (sym (take_all i xs h)) ∙ none
