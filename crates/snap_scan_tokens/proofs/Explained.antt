-- What explains a refusal, from one character that does.
use Rattle.snap_scan_tokens.proofs.Prelude.{◌≡◌, ◌≤◌, ◌+◌, ℕ, List, [], ◌∷◌, Bool, true, false, length, slice_index, count_by, nat_le, refl, ap, arith, cond, needed, is_among, explains, HasCause, IsExplained, IsRefusedBy, Place, mark_of, Mark, ScanError, Syntax, OutOfMemory, both_second, both_first}
use Rattle.std.proofs.lemmas.List.Sums.{sum_by-cons}
use Rattle.snap_scan_tokens.specs.declared.info.ScanInfo.{ScanInfo}

one-stands : (f : ℕ → Bool) (c : ℕ) (cs : List ℕ) → f c ≡ true → 1 ≤ count_by f (c ∷ cs)
one-stands f c cs is =
    let g : ℕ → ℕ = λ x. cond (f x) 1 0 in
    let e : g c ≡ 1 = rw is refl in
    omega (arith, sum_by-cons g c cs, e)

le-of : (m n : ℕ) → nat_le m n ≡ true → m ≤ n
le-of m n h = grind arith

caused : (cs : List ℕ) (info : ScanInfo) (signs : List ℕ) → is_among signs (slice_index cs 0) ≡ true → is_among signs 0 ≡ false
    → ((c : ℕ) → is_among signs c ≡ true → explains c info ≡ true) → HasCause cs info
caused [] info signs among none by = absurd (cc)
caused (c ∷ cs) info signs among none by =
    let both : explains c info ≡ true = by c among in
    let few : (needed info).count ≤ 1 = le-of (needed info).count 1 (both_first (nat_le (needed info).count 1) (is_among (needed info).signs c) both) in
    omega (arith, few, one-stands (is_among (needed info).signs) c cs (both_second (nat_le (needed info).count 1) (is_among (needed info).signs c) both))

-- a refusal at a place that was reached
pub explained-at : (p q : Place) (signs : List ℕ) (e : ScanError) → is_among signs (slice_index p.left 0) ≡ true → is_among signs 0 ≡ false
    → q.index + length q.left ≡ p.index + length p.left → length q.left ≤ length p.left → IsRefusedBy signs (mark_of q) e → IsExplained p e
explained-at p q signs OutOfMemory among none sum lighter refused = tt
explained-at p q signs (Syntax mark info) among none sum lighter refused =
    let f : Mark → ℕ = λ m. m.index in
    let at : mark.index ≡ q.index = ap f refused.0 in
    (caused p.left info signs among none refused.1, omega (arith, sum, lighter, at), omega (arith, sum, lighter, at))

pub explained : (p : Place) (signs : List ℕ) (e : ScanError) → is_among signs (slice_index p.left 0) ≡ true → is_among signs 0 ≡ false
    → IsRefusedBy signs (mark_of p) e → IsExplained p e
explained p signs e among none refused = explained-at p p signs e among none refl (omega arith) refused
