-- The first literal behind an `@` from a line on.
use Rattle.std.specs.Prelude.{◌≡◌, ◌==◌, ◌-◌, ◌⊎◌, ℕ, zero, suc, List, [], ◌∷◌, Option, None, Some, option_and_then, if◌then◌else◌}
use Rattle.snap_text_literals.specs.Literal.{literal_reads}
use Rattle.snap_text_literals.specs.Fronts.{IsBehind, BeginsWithNone}

-- what follows the first line's end
abbrev pub past_line : List ℕ → Option (List ℕ)
past_line [] = None
past_line (c ∷ cs) = if c == 10 then Some cs else past_line cs

-- what follows so many line ends
abbrev pub past_lines : ℕ → List ℕ → Option (List ℕ)
past_lines zero text = Some text
past_lines (suc n) text = option_and_then (past_lines n) (past_line text)

-- the text from the start of a line on; lines are counted from 1
abbrev pub from_line : ℕ → List ℕ → Option (List ℕ)
from_line line text = if line == 0 then None else past_lines (line - 1) text

-- at the first `@` behind which a literal stands: the text from the literal on, and what stands behind it
abbrev pub IsMarked : List ℕ → List ℕ → List ℕ → Type 0
IsMarked [] here behind = ⊥
IsMarked (c ∷ cs) here behind = ((c ≡ 64) × (here ≡ cs) × IsBehind literal_reads cs behind) ⊎ ((c ≡ 64 → BeginsWithNone literal_reads cs) × IsMarked cs here behind)

-- behind no `@` stands a literal
abbrev pub HasNoneMarked : List ℕ → Type 0
HasNoneMarked [] = Unit {0}
HasNoneMarked (c ∷ cs) = (c ≡ 64 → BeginsWithNone literal_reads cs) × HasNoneMarked cs
