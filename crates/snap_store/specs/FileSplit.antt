-- How a snapshot file falls into its header and its body.
use Rattle.std.specs.Prelude.{◌≡◌, ◌==◌, ◌&&◌, ℕ, List, [], ◌∷◌, ◌++◌, Bool, true, false, if◌then◌else◌, Option, None, Some, option_map, map, drop, codes}
use Rattle.std.specs.Option.{option_or}
use Rattle.std.specs.Char.{to_ascii_lowercase}
use Rattle.std.specs.List.{concat}
use Rattle.std.specs.Str.{bytes_eq, skip_leading_whitespace}
use Rattle.snap_content.specs.Plain.{Plain}
use Rattle.snap_print.specs.Blocks.{Blocks}
use Rattle.snap_print.specs.Lines.{document_of, text_of}
use Rattle.snap_str.specs.Lines.{ended_lines}
use Rattle.snap_text.specs.Normal.{trimmed, is_fence}

-- a line's end: LF, or CR and LF
abbrev pub is_end : List ℕ → Bool
is_end [] = false
is_end (c ∷ []) = c == 10
is_end (c ∷ d ∷ []) = c == 13 && d == 10
is_end (c ∷ d ∷ e ∷ cs) = false

-- a piece without its line's end
abbrev pub line_of : List ℕ → List ℕ
line_of [] = []
line_of (c ∷ cs) = if is_end (c ∷ cs) then [] else c ∷ line_of cs

-- the lines with LF between each two
abbrev pub joined_lines : List (List ℕ) → List ℕ
joined_lines [] = []
joined_lines (line ∷ []) = line
joined_lines (line ∷ next ∷ lines) = line ++ 10 ∷ joined_lines (next ∷ lines)

-- the pieces before the next fence
abbrev pub up_to_fence : List (List ℕ) → List (List ℕ)
up_to_fence [] = []
up_to_fence (piece ∷ rest) = if is_fence piece then [] else piece ∷ up_to_fence rest

-- the pieces after the next fence
abbrev pub past_fence : List (List ℕ) → List (List ℕ)
past_fence [] = []
past_fence (piece ∷ rest) = if is_fence piece then rest else past_fence rest

abbrev pub first_is_fence : List (List ℕ) → Bool
first_is_fence [] = false
first_is_fence (piece ∷ rest) = is_fence piece

-- the first piece opens the header, which goes up to the next fence
abbrev pub header_text : List (List ℕ) → List ℕ
header_text [] = []
header_text (piece ∷ rest) = piece ++ concat (up_to_fence rest)

-- the lines of some pieces, joined
abbrev pub lines_text : List (List ℕ) → List ℕ
lines_text rest = joined_lines (map line_of rest)

-- the first line of a file is `---`, without white space at its end
abbrev pub is_headed : List ℕ → Bool
is_headed text = first_is_fence (ended_lines text)

-- of a headed text: its header with the lines' ends
abbrev pub header_of : List ℕ → List ℕ
header_of text = header_text (ended_lines text)

-- of a headed text: the lines after the header's end
abbrev pub headed_body : List ℕ → List ℕ
headed_body text = lines_text (past_fence (drop 1 (ended_lines text)))

-- a text that is not headed: its first line is dropped
abbrev pub legacy_lines : List ℕ → List (List ℕ)
legacy_lines text = map line_of (drop 1 (ended_lines text))

abbrev pub is_blank : List ℕ → Bool
is_blank line = bytes_eq (trimmed line) []

-- the lines before the first blank one tell fields
abbrev pub before_blank : List (List ℕ) → List (List ℕ)
before_blank [] = []
before_blank (line ∷ lines) = if is_blank line then [] else line ∷ before_blank lines

-- the lines after the first blank one are the body
abbrev pub past_blank : List (List ℕ) → List (List ℕ)
past_blank [] = []
past_blank (line ∷ lines) = if is_blank line then lines else past_blank lines

-- the body of a file without a header: the lines after the first blank one
abbrev pub legacy_body : List ℕ → List ℕ
legacy_body text = joined_lines (past_blank (legacy_lines text))

-- what stands after the name and a colon, where the line begins with them; case does not count in ASCII
abbrev pub behind_name : List ℕ → List ℕ → Option (List ℕ)
behind_name name [] = None
behind_name [] (c ∷ cs) = if c == 58 then Some cs else None
behind_name (n ∷ name) (c ∷ cs) = if to_ascii_lowercase c == n then behind_name name cs else None

abbrev pub value_of : List ℕ → List ℕ
value_of text = trimmed (skip_leading_whitespace text)

-- the value of the last of the lines that name the field, which is written in small letters
abbrev pub legacy_field : List ℕ → List (List ℕ) → Option (List ℕ)
legacy_field name [] = None
legacy_field name (line ∷ lines) = option_or (legacy_field name lines) (option_map value_of (behind_name name line))

abbrev pub legacy_expression : List ℕ → Option (List ℕ)
legacy_expression text = legacy_field (codes "expression") (before_blank (legacy_lines text))

abbrev pub legacy_source : List ℕ → Option (List ℕ)
legacy_source text = legacy_field (codes "source") (before_blank (legacy_lines text))

-- what the snapshot's text is: it stands after the header, or after the first blank line where there is none
abbrev pub body_of : List ℕ → List ℕ
body_of text = if is_headed text then headed_body text else legacy_body text

-- the text is headed, and falls into this header and this body but for the body's last line's end
pub record FallsInto (text header body : List ℕ) : Type 0 where
  pub headed : is_headed text ≡ true
  pub header_is : header_of text ≡ header
  pub body_is : body_of text ++ 10 ∷ [] ≡ body

-- a file of a header and a body that are printed, each with literal blocks or without
abbrev pub file_text : Blocks → Plain → Blocks → Plain → List ℕ
file_text v header w body = document_of v header ++ codes "---\n" ++ text_of w body
