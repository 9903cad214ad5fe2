-- What a parser makes of the tokens that it takes, where that is what trees need: no anchors, tags, directives or `...`, and no
-- missing key or value.
use Rattle.std.specs.Prelude.{codes, ◌≡◌, if◌then◌else◌, List, [], ◌∷◌, Option, None, Some, Result, Ok, Err}
use Rattle.std.specs.Str.{chars}
use Rattle.snap_scan_tokens.specs.Mark.{Mark}
use Rattle.snap_scan_tokens.specs.declared.info.ScanError.{ScanError}
use Rattle.snap_scan_tokens.specs.declared.info.ScanError.TheVariants.{OutOfMemory}
use Rattle.snap_scan_tokens.specs.declared.token.TokenType.{TokenType}
use Rattle.snap_scan_tokens.specs.declared.token.TokenType.TheVariants as k
use Rattle.snap_scan_tokens.specs.declared.token.TScalarStyle.TheVariants as style
use Rattle.snap_parse_events.specs.declared.event.Event.{Event}
use Rattle.snap_parse_events.specs.declared.event.Event.TheVariants as e
use Rattle.snap_parse_events.specs.declared.machine.Machine.{Machine}
use Rattle.snap_parse_events.specs.declared.state.Context.{Context}
use Rattle.snap_parse_events.specs.declared.state.Context.TheVariants as x
use Rattle.snap_parse_events.specs.declared.state.Ends.{Ends}
use Rattle.snap_parse_events.specs.declared.state.Ends.TheVariants as n
use Rattle.snap_parse_events.specs.declared.state.Stage.{Stage}
use Rattle.snap_parse_events.specs.declared.state.Stage.TheVariants as g
use Rattle.snap_parse_events.specs.declared.state.State.{State}
use Rattle.snap_parse_events.specs.declared.state.State.TheVariants as s
use Rattle.snap_parse_events.specs.declared.tokens.Tokens.{Tokens}
use Rattle.snap_parse_events.specs.Context.{takes_blocks, takes_indentless}
use Rattle.snap_parse_events.specs.Ends.{ends_at}
use Rattle.snap_parse_events.specs.Machine.{spot_of}
use Rattle.snap_parse_events.specs.Place.{Spot}
use Rattle.snap_parse_events.specs.Taking.{WillTake}

-- where a parser stands once what is open has ended
abbrev pub left_spot : List State → Spot
left_spot [] = record { stage = g.Open s.DocumentEnd; outer = [] }
left_spot (y ∷ ys) = record { stage = g.Open y; outer = ys }

-- a node that isn't written
abbrev pub empty_scalar : Event
empty_scalar = e.Scalar (chars (codes "~")) style.Plain 0 None

-- an event, where the parser stands after it, and the tokens that are left
pub record Parsed : Type 0 where
  pub event : Event
  pub spot : Spot
  pub rest : List TokenType

abbrev pub parsed : Event → Spot → List TokenType → Option Parsed
parsed event spot rest = Some (record { event = event; spot = spot; rest = rest })

abbrev pub at : State → List State → Spot
at y ys = record { stage = g.Open y; outer = ys }

-- the event of a node in its context, after which the parser goes on at y
abbrev pub node_step : Context → State → List State → List TokenType → Option Parsed
node_step c y ys (k.Scalar style text ∷ ts) = parsed (e.Scalar text style 0 None) (at y ys) ts
node_step c y ys (k.BlockSequenceStart ∷ ts) = (if takes_blocks c then parsed (e.SequenceStart 0) (at s.BlockSequenceEntry (y ∷ ys)) ts else None)
node_step c y ys (k.BlockMappingStart ∷ ts) = (if takes_blocks c then parsed (e.MappingStart 0) (at s.BlockMappingKey (y ∷ ys)) ts else None)
node_step c y ys (k.FlowSequenceStart ∷ ts) = parsed (e.SequenceStart 0) (at s.FlowSequenceFirstEntry (y ∷ ys)) ts
node_step c y ys (k.FlowMappingStart ∷ ts) = parsed (e.MappingStart 0) (at s.FlowMappingFirstKey (y ∷ ys)) ts
node_step c y ys (k.BlockEntry ∷ ts) = (if takes_indentless c then parsed (e.SequenceStart 0) (at s.IndentlessSequenceEntry (y ∷ ys)) (k.BlockEntry ∷ ts) else None)
node_step c y ys _ = None

-- the same, but where the node is empty
abbrev pub filled_step : Ends → Context → State → List State → List TokenType → Option Parsed
filled_step n c y ys [] = None
filled_step n c y ys (t ∷ ts) = (if ends_at n t then parsed empty_scalar (at y ys) (t ∷ ts) else node_step c y ys (t ∷ ts))

abbrev pub entry_step : List State → List TokenType → Option Parsed
entry_step ys (k.BlockEntry ∷ ts) = filled_step n.BlockEntry x.Block s.BlockSequenceEntry ys ts
entry_step ys (k.BlockEnd ∷ ts) = parsed e.SequenceEnd (left_spot ys) ts
entry_step ys _ = None

abbrev pub indentless_step : List State → List TokenType → Option Parsed
indentless_step ys (k.BlockEntry ∷ ts) = filled_step n.IndentlessEntry x.Block s.IndentlessSequenceEntry ys ts
indentless_step ys (k.Key ∷ ts) = parsed e.SequenceEnd (left_spot ys) (k.Key ∷ ts)
indentless_step ys (k.Value ∷ ts) = parsed e.SequenceEnd (left_spot ys) (k.Value ∷ ts)
indentless_step ys (k.BlockEnd ∷ ts) = parsed e.SequenceEnd (left_spot ys) (k.BlockEnd ∷ ts)
indentless_step ys _ = None

abbrev pub key_step : List State → List TokenType → Option Parsed
key_step ys (k.Key ∷ ts) = filled_step n.BlockPair x.Indentless s.BlockMappingValue ys ts
key_step ys (k.BlockEnd ∷ ts) = parsed e.MappingEnd (left_spot ys) ts
key_step ys _ = None

abbrev pub value_step : List State → List TokenType → Option Parsed
value_step ys (k.Value ∷ ts) = filled_step n.BlockPair x.Indentless s.BlockMappingKey ys ts
value_step ys _ = None

abbrev pub flow_first_step : List State → List TokenType → Option Parsed
flow_first_step ys (k.FlowSequenceEnd ∷ ts) = parsed e.SequenceEnd (left_spot ys) ts
flow_first_step ys ts = node_step x.Flow s.FlowSequenceEntry ys ts

abbrev pub flow_entry_step : List State → List TokenType → Option Parsed
flow_entry_step ys (k.FlowSequenceEnd ∷ ts) = parsed e.SequenceEnd (left_spot ys) ts
flow_entry_step ys (k.FlowEntry ∷ ts) = flow_first_step ys ts
flow_entry_step ys _ = None

abbrev pub flow_first_key_step : List State → List TokenType → Option Parsed
flow_first_key_step ys (k.FlowMappingEnd ∷ ts) = parsed e.MappingEnd (left_spot ys) ts
flow_first_key_step ys (k.Key ∷ ts) = filled_step n.FlowKey x.Flow s.FlowMappingValue ys ts
flow_first_key_step ys _ = None

abbrev pub flow_key_step : List State → List TokenType → Option Parsed
flow_key_step ys (k.FlowMappingEnd ∷ ts) = parsed e.MappingEnd (left_spot ys) ts
flow_key_step ys (k.FlowEntry ∷ ts) = flow_first_key_step ys ts
flow_key_step ys _ = None

abbrev pub flow_value_step : List State → List TokenType → Option Parsed
flow_value_step ys (k.Value ∷ ts) = filled_step n.FlowValue x.Flow s.FlowMappingKey ys ts
flow_value_step ys _ = None

-- a document's start that is written
abbrev pub start_step : List State → List TokenType → Option Parsed
start_step ys (k.DocumentStart ∷ ts) = parsed e.DocumentStart (at s.DocumentContent ys) ts
start_step ys _ = None

abbrev pub document_step : List State → List TokenType → Option Parsed
document_step ys (k.DocumentStart ∷ ts) = start_step ys (k.DocumentStart ∷ ts)
document_step ys (k.StreamEnd ∷ ts) = parsed e.StreamEnd (record { stage = g.Ended; outer = ys }) ts
document_step ys _ = None

abbrev pub bare : List State → List TokenType → Option Parsed
bare ys ts = parsed e.DocumentStart (at s.BlockNode ys) ts

-- a first document may begin without a mark
abbrev pub first_document_step : List State → List TokenType → Option Parsed
first_document_step ys (k.DocumentStart ∷ ts) = start_step ys (k.DocumentStart ∷ ts)
first_document_step ys (k.StreamEnd ∷ ts) = parsed e.StreamEnd (record { stage = g.Ended; outer = ys }) ts
first_document_step ys (k.Scalar style text ∷ ts) = bare ys (k.Scalar style text ∷ ts)
first_document_step ys (k.BlockSequenceStart ∷ ts) = bare ys (k.BlockSequenceStart ∷ ts)
first_document_step ys (k.BlockMappingStart ∷ ts) = bare ys (k.BlockMappingStart ∷ ts)
first_document_step ys (k.FlowSequenceStart ∷ ts) = bare ys (k.FlowSequenceStart ∷ ts)
first_document_step ys (k.FlowMappingStart ∷ ts) = bare ys (k.FlowMappingStart ∷ ts)
first_document_step ys _ = None

abbrev pub document_end_step : List State → List TokenType → Option Parsed
document_end_step ys (k.StreamEnd ∷ ts) = parsed e.DocumentEnd (at s.DocumentStart ys) (k.StreamEnd ∷ ts)
document_end_step ys _ = None

abbrev pub stream_step : List State → List TokenType → Option Parsed
stream_step ys (k.StreamStart encoding ∷ ts) = parsed e.StreamStart (at s.ImplicitDocumentStart ys) ts
stream_step ys _ = None

abbrev pub state_step : State → List State → List TokenType → Option Parsed
state_step s.ImplicitDocumentStart ys ts = first_document_step ys ts
state_step s.DocumentStart ys ts = document_step ys ts
state_step s.DocumentContent ys ts = filled_step n.Document x.Block s.DocumentEnd ys ts
state_step s.BlockNode ys ts = node_step x.Block s.DocumentEnd ys ts
state_step s.DocumentEnd ys ts = document_end_step ys ts
state_step s.BlockSequenceEntry ys ts = entry_step ys ts
state_step s.IndentlessSequenceEntry ys ts = indentless_step ys ts
state_step s.BlockMappingKey ys ts = key_step ys ts
state_step s.BlockMappingValue ys ts = value_step ys ts
state_step s.FlowSequenceFirstEntry ys ts = flow_first_step ys ts
state_step s.FlowSequenceEntry ys ts = flow_entry_step ys ts
state_step s.FlowMappingFirstKey ys ts = flow_first_key_step ys ts
state_step s.FlowMappingKey ys ts = flow_key_step ys ts
state_step s.FlowMappingValue ys ts = flow_value_step ys ts
state_step _ ys ts = None

abbrev pub stage_step : Stage → List State → List TokenType → Option Parsed
stage_step g.Ahead ys ts = stream_step ys ts
stage_step (g.Open y) ys ts = state_step y ys ts
stage_step g.Ended ys ts = None

-- one event, and None where none comes or none is described
abbrev pub parse_step : Spot → List TokenType → Option Parsed
parse_step p ts = stage_step p.stage p.outer ts

-- the call does what the step says, or there was not enough memory
abbrev pub Parses : Result (Event × Mark) ScanError → Spot → Tokens → Parsed → Type 0
Parses (Ok given) p f r = (given.0 ≡ r.event) × (p ≡ r.spot) × WillTake f r.rest
Parses (Err error) p f r = error ≡ OutOfMemory

-- the call does what a step makes of the tokens that will be taken, where it says
abbrev pub Follows : (List TokenType → Option Parsed) → Result (Event × Mark) ScanError → Machine → Machine → Type 0
Follows step r old new = (ts : List TokenType) (found : Parsed) → WillTake old.tokens ts → step ts ≡ Some found → Parses r (spot_of new) new.tokens found

-- the events that a parser will give, from the tokens that it will take, up to the stream's end
pub data Yields : Spot → List TokenType → List Event → Type 0 where
  finished : (p : Spot) (ts : List TokenType) → p.stage ≡ g.Ended → Yields p ts []
  then_one : (p : Spot) (ts : List TokenType) (r : Parsed) (es : List Event) → parse_step p ts ≡ Some r → Yields r.spot r.rest es
      → Yields p ts (r.event ∷ es)
