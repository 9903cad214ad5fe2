-- What a loader has made of the events so far.
use Rattle.std.specs.Prelude.{List, [], ◌∷◌, ◌++◌, Option, None, Some, unwrap_or, if◌then◌else◌}
use Rattle.snap_parse_events.specs.declared.event.Event.{Event}
use Rattle.snap_parse_events.specs.declared.event.Event.TheVariants as e
use Rattle.snap_yaml.specs.Value.{Value, array, hash, bad_value, values_of, pairs_of}
use Rattle.snap_yaml.specs.Readers.{is_bad}
use Rattle.snap_parse.specs.Documents.{scalar_value}

-- a list that is open, or a mapping with the key whose value is due
pub data Held : Type 0 where
  in_list : List Value → Held
  in_dict : List (Value × Value) → Option Value → Held

-- the documents that have ended, the node of the one that is open once it is whole, and what is open, the innermost first
pub record LoadState : Type 0 where
  pub documents : List Value
  pub node : Option Value
  pub held : List Held

-- before the first event
abbrev pub start : LoadState
start = record { documents = []; node = None; held = [] }

-- a value goes into a list, or into a mapping as a key or after its key
abbrev pub put_in : Value → Held → Held
put_in v (in_list vs) = in_list (vs ++ v ∷ [])
put_in v (in_dict ps None) = in_dict ps (if is_bad v then None else Some v)
put_in v (in_dict ps (Some k)) = in_dict (ps ++ (k, v) ∷ []) None

abbrev pub put_at : Value → List Value → Option Value → List Held → LoadState
put_at v documents nothing [] = record { documents = documents; node = Some v; held = [] }
put_at v documents nothing (h ∷ hs) = record { documents = documents; node = nothing; held = put_in v h ∷ hs }

abbrev pub put : Value → LoadState → LoadState
put v s = put_at v s.documents s.node s.held

-- the value of what was open; a key alone is dropped
abbrev pub closed : Held → Value
closed (in_list vs) = array (values_of vs)
closed (in_dict ps k) = hash (pairs_of ps)

abbrev pub close_at : List Value → Option Value → List Held → LoadState
close_at documents nothing [] = record { documents = documents; node = nothing; held = [] }
close_at documents nothing (h ∷ hs) = put_at (closed h) documents nothing hs

abbrev pub close : LoadState → LoadState
close s = close_at s.documents s.node s.held

abbrev pub end_document : LoadState → LoadState
end_document s = record { documents = s.documents ++ unwrap_or s.node bad_value ∷ []; node = None; held = s.held }

abbrev pub open_one : Held → LoadState → LoadState
open_one h s = record { documents = s.documents; node = s.node; held = h ∷ s.held }

abbrev pub step : Event → LoadState → LoadState
step e.StreamStart s = s
step e.StreamEnd s = s
step e.DocumentStart s = s
step e.DocumentEnd s = end_document s
step (e.Alias id) s = s
step (e.Scalar text style id tag) s = put (scalar_value text style tag) s
step (e.SequenceStart id) s = open_one (in_list []) s
step e.SequenceEnd s = close s
step (e.MappingStart id) s = open_one (in_dict [] None) s
step e.MappingEnd s = close s

-- what is made of events, one after the other
abbrev pub steps : List Event → LoadState → LoadState
steps [] s = s
steps (event ∷ events) s = steps events (step event s)
