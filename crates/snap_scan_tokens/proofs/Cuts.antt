-- Where a text is cut by its bytes.
use Rattle.snap_scan_tokens.proofs.Prelude.{◌≡◌, ℕ, ◌+◌, ◌<◌, ◌≤◌, ◌≢◌, ◌==◌, List, [], ◌∷◌, ◌++◌, false, length, take, drop, slice_index, get_or, refl, sym, ap, ◌∙◌, arith, if◌then◌else◌, length-append, add-zero, get_or-append-add, get_or-take, get_or-drop, take-append-drop, length-take-le, byte_from_char, char_from_byte, length-encode, len_utf8_bounds, chars-append, encodes-chars, IsUtf8-take, IsUtf8-drop, chars, IsUtf8, IsCharBoundary, before_nul, encode, encodes}

-- no byte of a text is 0
abbrev pub NoneIsNul : List ℕ → Type 0
NoneIsNul bytes = (k : ℕ) → k < length bytes → slice_index bytes k ≢ 0

pub some-byte : (c : ℕ) (cs : List ℕ) → 0 < length (encodes (c ∷ cs))
some-byte c cs = omega (arith, length-append (encode c) (encodes cs), length-encode c, (len_utf8_bounds c).0)

first-is : (c : ℕ) (cs : List ℕ) → NoneIsNul (encodes (c ∷ cs)) → c ≢ 0
first-is c cs none = λ e. none 0 (some-byte c cs) (byte_from_char (encodes (c ∷ cs)) (encodes cs) c refl (omega (arith, e)) ∙ e)

rest-are : (c : ℕ) (cs : List ℕ) → NoneIsNul (encodes (c ∷ cs)) → NoneIsNul (encodes cs)
rest-are c cs none = λ k less e.
    none (length (encode c) + k) (omega (arith, length-append (encode c) (encodes cs))) (get_or-append-add (encode c) (encodes cs) k 0 ∙ e)

picks : (c : ℕ) (xs ys : List ℕ) → c ≢ 0 → (if c == 0 then xs else ys) ≡ ys
picks c xs ys h = let e : (c == 0) ≡ false = grind arith in rw e refl

begins : (cs : List ℕ) → slice_index (encodes cs) 0 ≡ 0 → slice_index cs 0 ≡ 0
begins [] e = refl
begins (c ∷ cs) e = char_from_byte (encodes (c ∷ cs)) (encodes cs) c refl (omega (arith, e)) (some-byte c cs) ∙ e

-- what no NUL stands in, before the end or a NUL
pub no-nul : (cs rest : List ℕ) → NoneIsNul (encodes cs) → slice_index rest 0 ≡ 0 → before_nul (cs ++ rest) ≡ cs
no-nul [] [] none first = refl
no-nul [] (d ∷ rest) none first = rw first refl
no-nul (c ∷ cs) rest none first =
    picks c [] (c ∷ before_nul (cs ++ rest)) (first-is c cs none) ∙ ap (λ l. c ∷ l) (no-nul cs rest (rest-are c cs none) first)

-- a text that begins with the byte 0 begins with NUL
first-of : (bytes : List ℕ) → IsUtf8 bytes → slice_index bytes 0 ≡ 0 → slice_index (chars bytes) 0 ≡ 0
first-of bytes u first = begins (chars bytes) (ap (λ l. slice_index l 0) (encodes-chars bytes u) ∙ first)

-- a text that is cut at its first NUL, or at its end
pub cut : (text : List ℕ) (n : ℕ) → IsUtf8 text → n ≤ length text → ((k : ℕ) → k < n → slice_index text k ≢ 0) → slice_index text n ≡ 0
    → chars (take n text) ≡ before_nul (chars text)
cut text n u le none at =
    let boundary : IsCharBoundary text n = (le, λ _ high. absurd (omega arith)) in
    let v : IsUtf8 (take n text) = IsUtf8-take text n u boundary in
    let w : IsUtf8 (drop n text) = IsUtf8-drop text n u boundary in
    let cs : List ℕ = chars (take n text) in
    let rest : List ℕ = chars (drop n text) in
    let bytes : encodes cs ≡ take n text = encodes-chars (take n text) v in
    let free : NoneIsNul (encodes cs) = λ k less e. none k (omega (arith, ap length bytes, length-take-le n text le)) (sym (get_or-take n text k 0 (omega (arith, ap length bytes, length-take-le n text le))) ∙ ap (λ l. get_or l k 0) (sym bytes) ∙ e) in
    let first : slice_index rest 0 ≡ 0 = first-of (drop n text) w (get_or-drop n text 0 0 ∙ ap (λ i. get_or text i 0) (add-zero n) ∙ at) in
    sym (ap before_nul (ap chars (sym (take-append-drop n text)) ∙ chars-append (take n text) (drop n text) v) ∙ no-nul cs rest free first)
