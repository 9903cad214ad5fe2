-- What a list of events means: what is open after it, and which event may come there.
use Rattle.std.specs.Prelude.{Bool, true, false, List, [], ◌∷◌, Option, None, Some, option_and_then}
use Rattle.snap_parse_events.specs.declared.event.Event.{Event}
use Rattle.snap_parse_events.specs.declared.event.Event.TheVariants as e

-- one thing that is open
pub data Open : Type 0 where
  -- a document whose node is to come
  due : Open
  -- a document whose node has begun
  given : Open
  sequence : Open
  -- a mapping where a key is due
  key : Open
  -- a mapping where a value is due
  value : Open

-- a stream that is ahead, or open with what is open in it, the innermost first, or ended
pub data Meaning : Type 0 where
  ahead : Meaning
  open_in : List Open → Meaning
  ended : Meaning

-- what is open once a node has begun, and None where no node may come
abbrev pub given_in : List Open → Option (List Open)
given_in [] = None
given_in (due ∷ os) = Some (given ∷ os)
given_in (given ∷ os) = None
given_in (sequence ∷ os) = Some (sequence ∷ os)
given_in (key ∷ os) = Some (value ∷ os)
given_in (value ∷ os) = Some (key ∷ os)

abbrev pub given_at : Meaning → Option (List Open)
given_at ahead = None
given_at (open_in os) = given_in os
given_at ended = None

-- a node without parts
abbrev pub leaf : Option (List Open) → Option Meaning
leaf None = None
leaf (Some os) = Some (open_in os)

-- the start of a node with parts
abbrev pub start : Open → Option (List Open) → Option Meaning
start o None = None
start o (Some os) = Some (open_in (o ∷ os))

abbrev pub start_stream : Meaning → Option Meaning
start_stream ahead = Some (open_in [])
start_stream (open_in os) = None
start_stream ended = None

-- the end may come again
abbrev pub end_stream : Meaning → Option Meaning
end_stream ahead = None
end_stream (open_in []) = Some ended
end_stream (open_in (o ∷ os)) = None
end_stream ended = Some ended

abbrev pub start_document : Meaning → Option Meaning
start_document ahead = None
start_document (open_in []) = Some (open_in (due ∷ []))
start_document (open_in (o ∷ os)) = None
start_document ended = None

abbrev pub end_document : Meaning → Option Meaning
end_document (open_in (given ∷ [])) = Some (open_in [])
end_document _ = None

abbrev pub end_sequence : Meaning → Option Meaning
end_sequence (open_in (sequence ∷ os)) = Some (open_in os)
end_sequence _ = None

-- a mapping ends where a key is due, so after an even number of nodes
abbrev pub end_mapping : Meaning → Option Meaning
end_mapping (open_in (key ∷ os)) = Some (open_in os)
end_mapping _ = None

-- the meaning after an event, and None where it may not come
abbrev pub after : Event → Meaning → Option Meaning
after e.StreamStart m = start_stream m
after e.StreamEnd m = end_stream m
after e.DocumentStart m = start_document m
after e.DocumentEnd m = end_document m
after (e.Alias id) m = leaf (given_at m)
after (e.Scalar text style id tag) m = leaf (given_at m)
after (e.SequenceStart id) m = start sequence (given_at m)
after e.SequenceEnd m = end_sequence m
after (e.MappingStart id) m = start key (given_at m)
after e.MappingEnd m = end_mapping m

-- the meaning after these events, one after the other, and None where one of them may not come
abbrev pub after_all : List Event → Meaning → Option Meaning
after_all [] m = Some m
after_all (event ∷ events) m = option_and_then (after_all events) (after event m)

-- a document has begun whose end is to come
abbrev pub is_inside : Meaning → Bool
is_inside ahead = false
is_inside (open_in []) = false
is_inside (open_in (o ∷ os)) = true
is_inside ended = false

-- the event that ends a stream
abbrev pub is_stream_end : Event → Bool
is_stream_end e.StreamEnd = true
is_stream_end _ = false
