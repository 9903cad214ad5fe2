-- Aliases among events.
use Rattle.std.specs.Prelude.{Bool, true, false, List}
use Rattle.std.specs.List.{list_any}
use Rattle.snap_parse_events.specs.declared.event.Event.{Event}
use Rattle.snap_parse_events.specs.declared.event.Event.TheVariants as e

-- the node of an anchor again
abbrev pub is_alias : Event → Bool
is_alias (e.Alias id) = true
is_alias _ = false

abbrev pub has_alias : List Event → Bool
has_alias events = list_any is_alias events
