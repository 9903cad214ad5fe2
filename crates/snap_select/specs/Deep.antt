-- Wildcards for any number of steps.
use Rattle.std.specs.Prelude.{Bool, true, false, List}
use Rattle.std.specs.List.{list_any}
use Rattle.snap_select.specs.declared.segment.Segment.{Segment}
use Rattle.snap_select.specs.declared.segment.Segment.TheVariants.{DeepWildcard, Wildcard, Key, Index, Range}

abbrev pub is_deep : Segment → Bool
is_deep DeepWildcard = true
is_deep Wildcard = false
is_deep (Key name) = false
is_deep (Index number) = false
is_deep (Range from to) = false

-- one of the segments is one
abbrev pub has_deep : List Segment → Bool
has_deep ss = list_any is_deep ss
