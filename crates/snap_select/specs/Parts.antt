-- What a selector consists of.
use Rattle.std.specs.Prelude.{List}
use Rattle.snap_select.specs.declared.segment.Segment.{Segment}

-- the parts of a selector, each with its segments
abbrev pub Parts : Type 0
Parts = List (List Segment)
