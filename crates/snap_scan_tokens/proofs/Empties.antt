-- Texts and lists without a character.
use Rattle.snap_scan_tokens.proofs.Prelude.{◌≡◌, ℕ, ◌+◌, ◌<◌, ◌==◌, List, [], ◌∷◌, true, length, refl, sym, ap, arith, encodes-chars, chars, IsUtf8, is_nothing, before, EndsIn, encodes}
use Rattle.snap_content.proofs.BeforeRest.{splits}
use Rattle.snap_scan_tokens.proofs.Cuts.{some-byte}

nil-of : (cs : List ℕ) (bytes : List ℕ) → encodes cs ≡ bytes → (length bytes == 0) ≡ is_nothing cs
nil-of [] bytes e = rw (sym e) refl
nil-of (c ∷ cs) bytes e = let some : 0 < length bytes = omega (arith, some-byte c cs, ap length e) in grind arith

-- a text has no byte where it has no character
pub nil-text : (bytes : List ℕ) → IsUtf8 bytes → (length bytes == 0) ≡ is_nothing (chars bytes)
nil-text bytes u = nil-of (chars bytes) bytes (encodes-chars bytes u)

same-of : (cs : List ℕ) (m n : ℕ) → m ≡ length (encodes cs) + n → (m == n) ≡ is_nothing cs
same-of [] m n e = grind arith
same-of (c ∷ cs) m n e = let some : n < m = omega (arith, some-byte c cs, e) in grind arith

-- a text that ends in another is as long where nothing stands before that
pub same-length : (start rest : List ℕ) → IsUtf8 start → IsUtf8 rest → EndsIn (chars start) (chars rest)
    → (length start == length rest) ≡ is_nothing (before (chars start) (chars rest))
same-length start rest u v ends =
    same-of (before (chars start) (chars rest)) (length start) (length rest) (splits start rest (before (chars start) (chars rest)) u v ends).longer

pub nil-is : (cs : List ℕ) → is_nothing cs ≡ true → cs ≡ []
nil-is [] e = refl
nil-is (c ∷ cs) e = absurd (cc)
