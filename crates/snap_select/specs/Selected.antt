-- The parts of a text, where it is a selector.
use Rattle.std.specs.Prelude.{ℕ, List, [], Option, None, Some}
use Rattle.snap_select.specs.Parts.{Parts}
use Rattle.snap_select.specs.Reading.{Outcome, selects, refuses, outcome, before_part}

abbrev pub parts_in : Outcome → Option Parts
parts_in (selects parts) = Some parts
parts_in (refuses fault left) = None

-- by a law these are the parts of which the text is a selector
abbrev pub selected : List ℕ → Option Parts
selected text = parts_in (outcome (before_part []) text)
