-- What a loader is seen as.
use Rattle.std.specs.Prelude.{◌≡◌, List, map, option_map, false}
use Rattle.snap_parse_events.specs.declared.event.Event.{Event}
use Rattle.snap_yaml.specs.View.{value_of, array_list, pair_value, hash_list}
use Rattle.snap_parse.specs.Steps.{Held, in_list, in_dict, LoadState, steps, start}
use Rattle.snap_parse.specs.declared.loader.Frame.{Frame}
use Rattle.snap_parse.specs.declared.loader.Frame.TheVariants as f
use Rattle.snap_parse.specs.Aliases.{has_alias}
use Rattle.snap_parse.specs.declared.loader.Documents.{Documents}
use Rattle.snap_parse.specs.declared.loader.Loader.{Loader}

abbrev pub held_of : Frame → Held
held_of (f.List items) = in_list (map value_of (array_list items))
held_of (f.Dict pairs key) = in_dict (map pair_value (hash_list pairs)) (option_map value_of key)

abbrev pub state_of : Loader → LoadState
state_of l = record { documents = map value_of (array_list l.documents); node = option_map value_of l.node; held = map held_of l.open.items }

-- one that has lost no event has made of these events what they come to, and knows whether an alias is among them
abbrev pub HasLoaded : Loader → List Event → Type 0
HasLoaded l events = l.is_broken ≡ false → (state_of l ≡ steps events start) × (l.has_alias ≡ has_alias events)

-- these are the documents that the loader has made of its events, and they tell whether an alias was among these
abbrev pub HoldsDocuments : Loader → Documents → Type 0
HoldsDocuments l made = (events : List Event) → HasLoaded l events
    → (map value_of (array_list made.values) ≡ (steps events start).documents) × (made.has_alias ≡ has_alias events)
