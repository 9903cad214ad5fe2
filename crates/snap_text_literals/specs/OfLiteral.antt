-- The inline text that a literal stands for.
use Rattle.std.specs.Prelude.{◌≡◌, ◌&&◌, ◌||◌, ℕ, List, [], ◌∷◌, Bool, true, false, not, if◌then◌else◌}
use Rattle.std.specs.List.{list_any}
use Rattle.snap_str.specs.Lines.{lines}
use Rattle.snap_text_literals.specs.Inline.{is_short, joined_from, inline_normal}
use Rattle.snap_text_literals.specs.Literal.{literal_reads}
use Rattle.snap_text_literals.specs.Normal.{trimmed}
use Rattle.snap_text_literals.specs.Spelled.{is_hidden, IsIndentation}

abbrev pub without_empty : List (List ℕ) → List (List ℕ)
without_empty ([] ∷ rest) = rest
without_empty other = other

-- the text of a snapshot whose literal reads as this text
abbrev pub of_literal : List ℕ → List ℕ
of_literal text = if is_short (lines (trimmed text)) || list_any is_hidden text then trimmed text else joined_from 0 (without_empty (lines text))

abbrev pub is_filled : List (List ℕ) → Bool
is_filled [] = false
is_filled ([] ∷ rest) = false
is_filled ((c ∷ cs) ∷ rest) = true

-- a literal of several lines reads as this text, and its first line is not empty
abbrev pub is_open : List ℕ → Bool
is_open text = not (is_short (lines (trimmed text)) || list_any is_hidden text) && is_filled (lines text)

-- for a text whose normal form is its own normal form: the literal reads as some text, and a snapshot made of that has the first one's normal form
abbrev pub ComesBack : List ℕ → List ℕ → List ℕ → Type 0
ComesBack literal indentation text =
    IsIndentation indentation → inline_normal (inline_normal text) ≡ inline_normal text
    → (read : List ℕ) × literal_reads literal read × (inline_normal (of_literal read) ≡ inline_normal text)
