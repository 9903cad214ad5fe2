-- The names among the parts of what a folder told.
use Rattle.snap_io.proofs.Prelude.{◌≡◌, ℕ, zero, suc, ◌<◌, Bool, true, false, cond, List, [], ◌∷◌, length, take, drop, refl, ◌∙◌, ap, arith, slice_split, onto_first, is_zero}
use Rattle.memchr.specs.Find.{Nowhere, Passes, is_byte}

nowhere_behind : (x : ℕ) (xs : List ℕ) (n : ℕ) → Nowhere (Passes (is_byte 0) (x ∷ xs)) 0 (suc n) → Nowhere (Passes (is_byte 0) xs) 0 n
nowhere_behind x xs n none = λ k low high at. none (suc k) (omega arith) (omega arith) at

not_first : (x : ℕ) (xs : List ℕ) (n : ℕ) (b : Bool) → is_zero x ≡ b → Nowhere (Passes (is_byte 0) (x ∷ xs)) 0 (suc n) → is_zero x ≡ false
not_first x xs n true is none = absurd (none 0 (omega arith) (omega arith) is)
not_first x xs n false is none = is

split-no : (x : ℕ) (xs : List ℕ) → is_zero x ≡ false → slice_split is_zero (x ∷ xs) ≡ onto_first x (slice_split is_zero xs)
split-no x xs is = ap (λ b. cond b ([] ∷ slice_split is_zero xs) (onto_first x (slice_split is_zero xs))) is

-- without a 0 the bytes are one part
pub one_name : (bytes : List ℕ) → Nowhere (Passes (is_byte 0) bytes) 0 (length bytes) → slice_split is_zero bytes ≡ bytes ∷ []
one_name [] none = refl
one_name (x ∷ xs) none =
    split-no x xs (not_first x xs (length xs) (is_zero x) refl none) ∙ ap (onto_first x) (one_name xs (nowhere_behind x xs (length xs) none))

-- the first part ends at the first 0
pub first_name : (bytes : List ℕ) (k : ℕ) → k < length bytes → Nowhere (Passes (is_byte 0) bytes) 0 k → Passes (is_byte 0) bytes k
    → slice_split is_zero bytes ≡ take k bytes ∷ slice_split is_zero (drop (suc k) bytes)
first_name [] k within none at = absurd (omega arith)
first_name (x ∷ xs) zero within none at = ap (λ b. cond b ([] ∷ slice_split is_zero xs) (onto_first x (slice_split is_zero xs))) at
first_name (x ∷ xs) (suc k) within none at =
    split-no x xs (not_first x xs k (is_zero x) refl none) ∙ ap (onto_first x) (first_name xs k (omega arith) (nowhere_behind x xs k none) at)
