-- How a document falls into its header and its body.
use Rattle.std.specs.Prelude.{ℕ, List, [], ◌∷◌, Option, None, Some, option_map, if◌then◌else◌}
use Rattle.std.specs.List.{concat}
use Rattle.snap_str.specs.Lines.{ended_lines}
use Rattle.snap_text_literals.specs.Normal.{is_fence}

-- two lists of lines
pub record Cut : Type 0 where
  pub before : List (List ℕ)
  pub behind : List (List ℕ)

abbrev pub with_line : List ℕ → Cut → Cut
with_line line cut = record { before = line ∷ cut.before; behind = cut.behind }

-- the lines before the first fence, and those after it
abbrev pub at_fence : List (List ℕ) → Option Cut
at_fence [] = None
at_fence (line ∷ rest) = if is_fence line then Some (record { before = []; behind = rest }) else option_map (with_line line) (at_fence rest)

-- a first line that is a fence, with the lines up to the next fence; and the lines after that
abbrev pub front_lines : List (List ℕ) → Option Cut
front_lines [] = None
front_lines (line ∷ rest) = if is_fence line then option_map (with_line line) (at_fence rest) else None

-- a header and a body
abbrev pub texts_of : Cut → List ℕ × List ℕ
texts_of cut = (concat cut.before, concat cut.behind)

-- the header, the first fence with it, and all that follows the line of the second fence, character by character; none where one
-- of the two fences is missing
abbrev pub front_read : List ℕ → Option (List ℕ × List ℕ)
front_read text = option_map texts_of (front_lines (ended_lines text))
