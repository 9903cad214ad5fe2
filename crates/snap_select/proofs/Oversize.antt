-- Numbers that don't fit, and the digit that shows it.
use Rattle.snap_select.proofs.Prelude.{◌≡◌, ℕ, ℤ, ◌^◌, ◌<◌, Bool, true, false, List, [], ◌∷◌, ◌++◌, length, Some, None, cond, ◌+◌, refl, sym, ap, ◌∙◌, subst, append_assoc, append-nil, arith, lt-leb, leb-false, digit_value, IsNumeral, AllDigits, digits_value, FitsIndex, signed, signed_value, FitsBound, Parts, inside, is_far, is_over, flaw, since_in, TooLarge, Segment}
use Rattle.std.proofs.lemmas.Bool.{true_from_ne_false}
use Rattle.snap_select.proofs.Fitting.{near_fits, fits_near, near_over, one_near}
use Rattle.snap_select.proofs.Tokens.{either, numeral_more, signed_more}
use Rattle.snap_select.proofs.Walks.{Spot, behind_bracket, behind_colon, counting, digit_is, at_number}

-- bounds and indices that don't fit
pub far_unfit : (bound : ℤ) → is_far bound ≡ true → ¬ FitsBound bound
far_unfit bound h = λ k. let f = fits_near bound k in absurd (cc)

pub unfit_far : (bound : ℤ) → ¬ FitsBound bound → is_far bound ≡ true
unfit_far bound h = true_from_ne_false (is_far bound) (λ e. h (near_fits bound e))

pub over_unfit : (negative : Bool) (ds : List ℕ) → is_over negative ds ≡ true → ¬ FitsIndex negative ds
over_unfit true ds h = λ k. absurd (let e = k.0 in cc)
over_unfit false ds h = λ k. absurd (let f = lt-leb (2 ^ 64) (digits_value 10 ds) k.1 in cc)

pub over_far : (negative : Bool) (ds : List ℕ) → is_over negative ds ≡ true → is_far (signed_value negative ds) ≡ true
over_far negative ds h = true_from_ne_false (is_far (signed_value negative ds)) (λ e. let f = near_over negative ds e in cc)

pub unfit_over : (negative : Bool) (ds : List ℕ) → ¬ FitsIndex negative ds → ¬ FitsBound (signed_value negative ds) → is_over negative ds ≡ true
unfit_over true ds h k = unfit_far (signed_value true ds) k
unfit_over false ds h k = true_from_ne_false (is_over false ds) (λ e. h (refl, leb-false (2 ^ 64) (digits_value 10 ds) e))

-- digits that fit nothing that a number at that spot may be
abbrev pub is_large : Spot → Bool → List ℕ → Bool
is_large behind_bracket negative digits = is_over negative digits
is_large (behind_colon from) negative digits = is_far (signed_value negative digits)

one_small : (k : Spot) (negative : Bool) (c : ℕ) → digit_value c < 10 → is_large k negative (c ∷ []) ≡ false
one_small behind_bracket negative c h = near_over negative (c ∷ []) (one_near negative c h)
one_small (behind_colon from) negative c h = one_near negative c h

large_flaw : (k : Spot) (negative : Bool) (digits : List ℕ) (c : ℕ) → digit_value c < 10 → is_large k negative (digits ++ c ∷ []) ≡ true
    → (ps : Parts) (ss : List Segment) → flaw (inside ps ss (counting k negative digits)) c ≡ Some TooLarge
large_flaw k negative digits c h f ps ss = grind (arith, digit_is c h)

pub counted_since : (k : Spot) (negative : Bool) (digits : List ℕ) → since_in (counting k negative digits) ≡ length (signed negative digits)
counted_since k negative digits = grind arith

-- the digits up to the first that makes them too large
pub record Spills (k : Spot) (negative : Bool) (digits : List ℕ) : Type 0 where
  pub near : List ℕ
  pub c : ℕ
  pub more : List ℕ
  pub is : signed negative digits ≡ signed negative near ++ c ∷ more
  pub numeral : IsNumeral 10 near
  pub clear : is_large k negative near ≡ false
  pub flawed : (ps : Parts) (ss : List Segment) → flaw (inside ps ss (counting k negative near)) c ≡ Some TooLarge

spills_from : (k : Spot) (negative : Bool) (a b : List ℕ) → IsNumeral 10 a → AllDigits 10 b → is_large k negative a ≡ false → is_large k negative (a ++ b) ≡ true → Spills k negative (a ++ b)
spills_from k negative a [] n h f t = absurd (let e = ap (is_large k negative) (append-nil a) in cc)
spills_from k negative a (c ∷ cs) n h f t =
    let same = append_assoc a (c ∷ []) cs in
    either (is_large k negative (a ++ c ∷ [])) (Spills k negative (a ++ c ∷ cs))
    (λ e. record { near = a; c = c; more = cs; is = sym (signed_more negative a (c ∷ cs)); numeral = n; clear = f; flawed = large_flaw k negative a c h.0 e })
    (λ e. subst (Spills k negative) same (spills_from k negative (a ++ c ∷ []) cs (numeral_more a c n.1 (digit_is c h.0)) h.1 e (ap (is_large k negative) same ∙ t)))

pub spills : (k : Spot) (negative : Bool) (digits : List ℕ) → IsNumeral 10 digits → is_large k negative digits ≡ true → Spills k negative digits
spills k negative [] h t = absurd (omega (arith, h.0))
spills k negative (d ∷ ds) h t = spills_from k negative (d ∷ []) ds (omega arith, (h.1.0, tt)) h.1.1 (one_small k negative d h.1.0) t

-- a colon after a number
pub colon_flaw : (ps : Parts) (ss : List Segment) (negative : Bool) (digits gap : List ℕ) (far : Bool) → is_far (signed_value negative digits) ≡ far → flaw (inside ps ss (at_number negative digits gap)) 58 ≡ cond far (Some TooLarge) None
unfolding at_number
colon_flaw ps ss negative digits gap far h = grind arith

pub gap_since : (negative : Bool) (digits gap : List ℕ) → since_in (at_number negative digits gap) ≡ length (signed negative digits) + length gap
unfolding at_number
gap_since negative digits gap = grind arith
