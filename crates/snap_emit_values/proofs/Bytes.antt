-- What the bytes of a text tell of its line ends, and of what no block can hold.
use Rattle.snap_emit_values.proofs.Prelude.{◌≡◌, ◌==◌, ℕ, ◌≤◌, List, Bool, true, false, not, Option, sym, ap, ◌∙◌, arith, or_from, nat_tests, list_any, chars, IsUtf8}
use Rattle.std.proofs.Common.{is_some}
use Rattle.memchr.specs.Find.{IsFirstByte, is_byte, is_byte2}
use Rattle.snap_str.proofs.AsciiBytes.{any_of_bytes, found}
use Rattle.snap_print.specs.Blocks.{is_unheld}

wide-end : (c : ℕ) → 128 ≤ c → (c == 10) ≡ false
wide-end c wide = grind (arith, nat_tests)

wide-unheld : (c : ℕ) → 128 ≤ c → is_unheld c ≡ false
wide-unheld c wide = or_from (c == 13) (c == 0) (grind (arith, nat_tests)) (grind (arith, nat_tests))

-- a line's end is a byte, and so is what no block can hold
pub some_line_end : (bytes text : List ℕ) (r : Option ℕ) (some : Bool) → IsUtf8 text → bytes ≡ text → IsFirstByte (is_byte 10) bytes r → some ≡ is_some r
    → some ≡ list_any (λ c. c == 10) (chars text)
some_line_end bytes text r some utf8 same first is =
    is ∙ found (λ c. c == 10) bytes r first ∙ any_of_bytes (λ c. c == 10) wide-end bytes text utf8 same

turned : (free held : Bool) → held ≡ not free → free ≡ not held
turned true held is = sym (ap not is)
turned false held is = sym (ap not is)

pub none_unheld : (bytes text : List ℕ) (r : Option ℕ) (free : Bool) → IsUtf8 text → bytes ≡ text → IsFirstByte (is_byte2 13 0) bytes r
    → is_some r ≡ not free → free ≡ not (list_any is_unheld (chars text))
none_unheld bytes text r free utf8 same first is =
    turned free (list_any is_unheld (chars text))
    (sym (any_of_bytes is_unheld wide-unheld bytes text utf8 same) ∙ sym (found is_unheld bytes r first) ∙ is)
