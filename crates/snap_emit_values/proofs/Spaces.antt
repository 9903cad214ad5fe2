-- Blanks of a constant.
use Rattle.snap_emit_values.proofs.Prelude.{◌≡◌, ℕ, zero, suc, ◌+◌, ◌-◌, ◌≤◌, List, ◌∷◌, ◌++◌, take, refl, sym, ap, ◌∙◌, append_assoc, arith, zero-add, IsTrue, is_ascii, list_all, IsBegun, blanks, break_at}
use Rattle.snap_emit_values.proofs.Begun.{unmoved, begun_then, begun_as}

pub blanks-add : (i j : ℕ) → blanks (i + j) ≡ blanks i ++ blanks j
blanks-add zero j = ap blanks (zero-add j)
blanks-add (suc i) j = let e : suc i + j ≡ suc (i + j) = omega arith in ap blanks e ∙ ap (λ x. 32 ∷ x) (blanks-add i j)

-- blanks at the front of blanks
pub take-blanks : (k n : ℕ) → k ≤ n → take k (blanks n) ≡ blanks k
take-blanks zero n within = refl
take-blanks (suc k) zero within = absurd (omega (arith, within))
take-blanks (suc k) (suc n) within = ap (λ x. 32 ∷ x) (take-blanks k n (omega (arith, within)))

-- blanks are ASCII, with and without a line's end
pub blanks-ascii : (k : ℕ) → IsTrue (list_all is_ascii (blanks k))
blanks-ascii zero = refl
blanks-ascii (suc k) = blanks-ascii k

-- blanks, of which some were added before
pub more_blanks : (old mid new : List ℕ) (i j : ℕ) → mid ≡ old ++ blanks i → new ≡ mid ++ blanks j → new ≡ old ++ blanks (i + j)
more_blanks old mid new i j first second =
    second ∙ ap (λ x. x ++ blanks j) first ∙ append_assoc old (blanks i) (blanks j) ∙ ap (λ x. old ++ x) (sym (blanks-add i j))

pub blanks_begun : (old mid new : List ℕ) (k i : ℕ) → mid ≡ old ++ blanks i → i ≤ k → new ≡ mid → IsBegun old new (blanks k)
blanks_begun old mid new k i added within same =
    let e : i + (k - i) ≡ k = omega arith in
    begun_as old new (blanks i ++ blanks (k - i)) (blanks k) (sym (blanks-add i (k - i)) ∙ ap blanks e)
    (begun_then old mid new (blanks i) (blanks (k - i)) added (unmoved mid new (blanks (k - i)) same))

-- the fronts of the two constants
pub front_blanks : (k : ℕ) → k ≤ 64 → take k (blanks 64) ≡ blanks k
front_blanks k within = take-blanks k 64 within

pub front_line : (k : ℕ) → k ≤ 64 → take (k + 1) (10 ∷ blanks 64) ≡ break_at k
front_line k within =
    let e : k + 1 ≡ suc k = omega arith in
    ap (λ n. take n (10 ∷ blanks 64)) e ∙ ap (λ x. 10 ∷ x) (take-blanks k 64 within)

pub ascii_blanks : (k : ℕ) → k ≤ 64 → IsTrue (list_all is_ascii (take k (blanks 64)))
ascii_blanks k within = ap (list_all is_ascii) (front_blanks k within) ∙ blanks-ascii k

pub ascii_line : (k : ℕ) → k ≤ 64 → IsTrue (list_all is_ascii (take (k + 1) (10 ∷ blanks 64)))
ascii_line k within = ap (list_all is_ascii) (front_line k within) ∙ blanks-ascii k

-- the last blanks, as many as are left
pub all_blanks : (old mid new front : List ℕ) (k i : ℕ) → mid ≡ old ++ blanks i → i ≤ k → k - i ≤ 64 → front ≡ take (k - i) (blanks 64) → new ≡ mid ++ front
    → new ≡ old ++ blanks k
all_blanks old mid new front k i added within few is pushed =
    let e : i + (k - i) ≡ k = omega (arith, within) in
    more_blanks old mid new i (k - i) added (pushed ∙ ap (λ x. mid ++ x) (is ∙ front_blanks (k - i) few)) ∙ ap (λ n. old ++ blanks n) e
