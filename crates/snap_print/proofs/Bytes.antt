-- What the bytes of a text tell of its special characters.
use Rattle.snap_print.proofs.Prelude.{◌≡◌, ◌==◌, ℕ, ◌≤◌, List, [], ◌∷◌, Bool, true, false, ◌||◌, ◌&&◌, refl, arith, nat_le, or_from, nat_tests, IsTrue, codes, is_ascii, list_any, list_all, chars, IsUtf8, is_special}
use Rattle.snap_str.proofs.AsciiBytes.{any_of_bytes}

-- a wide character is none of a list of ASCII characters
none_of : (c : ℕ) (ks : List ℕ) → 128 ≤ c → IsTrue (list_all is_ascii ks) → list_any (λ k. c == k) ks ≡ false
none_of c [] wide ascii = refl
none_of c (k ∷ ks) wide ascii =
    let p = both (is_ascii k) (list_all is_ascii ks) ascii in
    or_from (c == k) (list_any (λ k. c == k) ks) (other c k wide p.0) (none_of c ks wide p.1)
  where
    both : (a b : Bool) → IsTrue (a && b) → IsTrue a × IsTrue b
    both true b h = (refl, h)
    both false b h = (cc, cc)

    other : (c k : ℕ) → 128 ≤ c → IsTrue (is_ascii k) → (c == k) ≡ false
    other c k wide small = grind (arith, nat_tests)

-- a special character is ASCII
wide-special : (c : ℕ) → 128 ≤ c → is_special c ≡ false
wide-special c wide =
    or_from (list_any (λ special. c == special) (codes ":{}[],#\"'\\`\t\n\r") || nat_le c 6 || (nat_le 14 c && nat_le c 26)) (nat_le 28 c && nat_le c 31)
    (or_from (list_any (λ special. c == special) (codes ":{}[],#\"'\\`\t\n\r") || nat_le c 6) (nat_le 14 c && nat_le c 26)
    (or_from (list_any (λ special. c == special) (codes ":{}[],#\"'\\`\t\n\r")) (nat_le c 6) (none_of c (codes ":{}[],#\"'\\`\t\n\r") wide refl) (grind (arith, nat_tests)))
    (grind (arith, nat_tests)))
    (grind (arith, nat_tests))

-- special characters are special bytes
pub special_bytes : (bytes text : List ℕ) → IsUtf8 text → bytes ≡ text → list_any is_special bytes ≡ list_any is_special (chars text)
special_bytes = any_of_bytes is_special wide-special
