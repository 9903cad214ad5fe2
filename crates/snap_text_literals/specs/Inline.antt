-- The normal form of an inline text.
use Rattle.std.specs.Prelude.{ℕ, ◌-◌, List, [], ◌∷◌, ◌++◌, Bool, true, false, not, ◌==◌, ◌||◌, nat_lt, length, if◌then◌else◌}
use Rattle.std.specs.Char.{len_utf8}
use Rattle.std.specs.List.{flat_map}
use Rattle.snap_str.specs.Lines.{lines}
use Rattle.snap_text_literals.specs.Normal.{trimmed, normal}
use Rattle.snap_text_literals.specs.Lines.{without_returns}
use Rattle.snap_text_literals.specs.Spelled.{is_indent, line_parts}

-- the blanks and tabs that a line begins with
abbrev pub lead : List ℕ → List ℕ
lead [] = []
lead (c ∷ cs) = if is_indent c then c ∷ lead cs else []

-- of the lines that have a character, the first shortest lead, from one that was found before
abbrev pub shortest : Bool → List ℕ → List (List ℕ) → List ℕ
shortest found best [] = best
shortest found best ([] ∷ rest) = shortest found best rest
shortest found best ((c ∷ cs) ∷ rest) =
    if not found || nat_lt (length (lead (c ∷ cs))) (length best) then shortest true (lead (c ∷ cs)) rest else shortest found best rest

-- of the lines of the trimmed text that have a character, the first shortest run of blanks and tabs at their front
abbrev pub indentation_of : List ℕ → List ℕ
indentation_of text = shortest false [] (lines (trimmed text))

-- a line from a byte on, and nothing where no character begins there
abbrev pub from_byte : ℕ → List ℕ → List ℕ
from_byte n [] = []
from_byte n (c ∷ cs) = if n == 0 then c ∷ cs else (if nat_lt n (len_utf8 c) then [] else from_byte (n - len_utf8 c) cs)

abbrev pub behind_end : ℕ → List ℕ → List ℕ
behind_end n line = 10 ∷ from_byte n line

-- lines from a byte on, joined by line ends
abbrev pub joined_from : ℕ → List (List ℕ) → List ℕ
joined_from n [] = []
joined_from n (line ∷ rest) = from_byte n line ++ flat_map (behind_end n) rest

-- at most one line
abbrev pub is_short : List (List ℕ) → Bool
is_short [] = true
is_short (line ∷ []) = true
is_short (line ∷ next ∷ rest) = false

-- an inline text without its indentation: the trimmed text where that has at most one line, else each line of the whole text from that many
-- bytes on
abbrev pub normalized : List ℕ → List ℕ
normalized text = if is_short (lines (trimmed text)) then trimmed text else joined_from (length (indentation_of text)) (lines text)

-- the normal form of an inline text: without its indentation, then trimmed and without the carriage returns before line ends
abbrev pub inline_normal : List ℕ → List ℕ
inline_normal text = normal (normalized text)

-- how many bytes the normal form leaves out at the start of each line
abbrev pub inline_width : List ℕ → ℕ
inline_width text = if is_short (lines (trimmed text)) then 0 else length (indentation_of text)

-- lines from a byte on, joined by line ends, each but the last without the returns at its end
abbrev pub written_lines : ℕ → List (List ℕ) → List ℕ
written_lines byte [] = []
written_lines byte (line ∷ []) = from_byte byte line
written_lines byte (line ∷ next ∷ rest) = without_returns (from_byte byte line) ++ 10 ∷ written_lines byte (next ∷ rest)

-- a text that is written so, line by line
abbrev pub written : ℕ → List ℕ → List ℕ
written byte text = written_lines byte (line_parts text)
