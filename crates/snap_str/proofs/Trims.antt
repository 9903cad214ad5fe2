-- What std leaves of a text without white space at an end.
use Rattle.snap_str.proofs.Prelude.{◌≡◌, ℕ, List, sym, chars_from_encodes, chars, IsUtf8, trim_start, trim_end, skip_leading_whitespace, drop_trailing_whitespace}

pub chars-trim_start : (text result : List ℕ) → IsUtf8 result → result ≡ trim_start text → chars result ≡ skip_leading_whitespace (chars text)
unfolding trim_start
chars-trim_start text result u is = sym (chars_from_encodes (skip_leading_whitespace (chars text)) result u (sym is))

pub chars-trim_end : (text result : List ℕ) → IsUtf8 result → result ≡ trim_end text → chars result ≡ drop_trailing_whitespace (chars text)
unfolding trim_end
chars-trim_end text result u is = sym (chars_from_encodes (drop_trailing_whitespace (chars text)) result u (sym is))
