-- What the bytes of a text tell of its characters.
use Rattle.snap_text_literals.proofs.Prelude.{◌≡◌, ℕ, ◌≤◌, List, Bool, true, false, not, Option, sym, ap, ◌∙◌, arith, nat_tests, list_any, chars, IsUtf8, is_return}
use Rattle.std.proofs.Common.{is_some}
use Rattle.memchr.specs.Find.{IsFirstByte, is_byte}
use Rattle.snap_str.proofs.AsciiBytes.{any_of_bytes, found}

wide-return : (c : ℕ) → 128 ≤ c → is_return c ≡ false
wide-return c wide = grind (arith, nat_tests)

turned : (free held : Bool) → held ≡ not free → free ≡ not held
turned true held is = sym (ap not is)
turned false held is = sym (ap not is)

-- a return is a byte
pub free_of_returns : (bytes text : List ℕ) (r : Option ℕ) (free : Bool) → IsUtf8 text → bytes ≡ text → IsFirstByte (is_byte 13) bytes r
    → is_some r ≡ not free → free ≡ not (list_any is_return (chars text))
free_of_returns bytes text r free utf8 same first is =
    turned free (list_any is_return (chars text)) (sym (any_of_bytes is_return wide-return bytes text utf8 same) ∙ sym (found is_return bytes r first) ∙ is)
