-- Kinds of characters.
use Rattle.std.specs.Prelude.{ℕ, Bool, not, ◌==◌, ◌||◌, ◌&&◌, nat_le, slice_index, List, if◌then◌else◌, codes}
use Rattle.std.specs.List.{list_any}
use Rattle.snap_scan_tokens.specs.Place.{Place, skipped, skipped_while}
use Rattle.snap_scan_tokens.specs.declared.characters.Kind.{Kind}
use Rattle.snap_scan_tokens.specs.declared.characters.Kind.TheVariants as k

-- LF or CR
abbrev pub is_break : ℕ → Bool
is_break c = c == 10 || c == 13

-- a blank or a tab
abbrev pub is_blank : ℕ → Bool
is_blank c = c == 32 || c == 9

-- CR and LF are one line end
abbrev pub is_pair : ℕ → ℕ → Bool
is_pair c d = c == 13 && d == 10

-- what ends a line or the text, for whose end NUL stands
abbrev pub is_break_or_end : ℕ → Bool
is_break_or_end c = is_break c || c == 0

-- a blank, a tab, or what ends a line or the text
abbrev pub is_blank_or_end : ℕ → Bool
is_blank_or_end c = is_blank c || is_break_or_end c

-- a comma, a bracket or a brace
abbrev pub is_flow_sign : ℕ → Bool
is_flow_sign c = c == 44 || c == 91 || c == 93 || c == 123 || c == 125

-- a decimal digit
abbrev pub is_digit : ℕ → Bool
is_digit c = nat_le 48 c && nat_le c 57

-- letters, digits, `_` and `-`, all of ASCII
abbrev pub is_alpha : ℕ → Bool
is_alpha c = is_digit c || (nat_le 97 c && nat_le c 122) || (nat_le 65 c && nat_le c 90) || c == 95 || c == 45

-- what may stand in a tag for itself
abbrev pub is_uri : ℕ → Bool
is_uri c = is_alpha c || list_any (λ sign. c == sign) (codes ";/?:@&=+$,.!~*'()[]")

-- the kinds of characters that are passed in runs; none of them has NUL
abbrev pub is_of : Kind → ℕ → Bool
is_of k.Blank c = is_blank c
is_of k.Space c = c == 32
is_of k.InLine c = not (is_break_or_end c)
is_of k.Alpha c = is_alpha c
is_of k.Uri c = is_uri c
is_of k.Digit c = is_digit c
is_of k.Word c = not (is_blank_or_end c || is_flow_sign c || c == 58)
is_of k.SingleQuoted c = not (is_blank_or_end c || c == 39)
is_of k.DoubleQuoted c = not (is_blank_or_end c || c == 34 || c == 92)

-- the place after the line end that begins here
abbrev pub past_break : Place → Place
past_break p = if is_pair (slice_index p.left 0) (slice_index p.left 1) then skipped (skipped p) else skipped p

-- the place after blanks
abbrev pub past_blanks : Place → Place
past_blanks p = skipped_while (is_of k.Blank) p

-- the place after blanks, and after the comment that stands there
abbrev pub past_comment : Place → Place
past_comment p = if slice_index (past_blanks p).left 0 == 35 then skipped_while (is_of k.InLine) (past_blanks p) else past_blanks p

-- `---` or `...` alone at the beginning of a line
abbrev pub is_document_sign : ℕ → List ℕ → Bool
is_document_sign sign cs =
    slice_index cs 0 == sign && slice_index cs 1 == sign && slice_index cs 2 == sign && is_blank_or_end (slice_index cs 3)

-- `---` alone at the beginning of a line
abbrev pub is_document_start : Place → Bool
is_document_start p = p.col == 0 && is_document_sign 45 p.left

-- `...` alone at the beginning of a line
abbrev pub is_document_end : Place → Bool
is_document_end p = p.col == 0 && is_document_sign 46 p.left

-- `---` or `...` alone at the beginning of a line
abbrev pub is_document_indicator : Place → Bool
is_document_indicator p = is_document_start p || is_document_end p
