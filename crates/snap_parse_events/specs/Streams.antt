-- Events that may come, from a stream's start up to its end.
use Rattle.std.specs.Prelude.{◌≡◌, true, not, Some, List, [], ◌∷◌, ◌++◌}
use Rattle.std.specs.List.{list_all}
use Rattle.snap_parse_events.specs.declared.event.Event.{Event}
use Rattle.snap_parse_events.specs.declared.event.Event.TheVariants as e
use Rattle.snap_parse_events.specs.Meaning.{ahead, ended, after_all, is_stream_end}
use Rattle.snap_parse_events.specs.Nodes.{Node, stream_events}

-- none of these is a stream's end
abbrev pub HasNoEnd : List Event → Type 0
HasNoEnd events = list_all (λ event. not (is_stream_end event)) events ≡ true

-- events that may come one after the other, from the start up to the first StreamEnd
pub record IsStream (events : List Event) : Type 0 where
  pub front : List Event
  pub split : events ≡ front ++ e.StreamEnd ∷ []
  pub first : HasNoEnd front
  pub allowed : after_all events ahead ≡ Some ended

-- these are the events of documents of one node each
abbrev pub AreDocuments : List Event → Type 0
AreDocuments events = (ds : List Node) × (events ≡ stream_events ds)

-- these may be followed by others, with which they are the events of documents
abbrev pub AreFront : List Event → Type 0
AreFront events = (rest : List Event) × AreDocuments (events ++ rest)
