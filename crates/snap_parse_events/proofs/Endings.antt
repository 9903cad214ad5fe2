-- The stream's end in meanings and events.
use Rattle.snap_parse_events.proofs.Prelude.{◌≡◌, List, [], ◌∷◌, Option, None, Some, Bool, true, false, not, refl, ap, Event, Open, due, given, sequence, key, value, Meaning, ahead, open_in, ended, given_at, leaf, start, after, is_stream_end, Passed, State, Stage, meaning_in, passed_of, stops, goes}
use Rattle.snap_parse_events.specs.declared.event.Event.TheVariants as e
use Rattle.snap_parse_events.specs.declared.load.Passed.TheVariants as w
use Rattle.snap_parse_events.specs.declared.state.Stage.TheVariants as g

-- a node ends no stream
leaf-ended : (o : Option (List Open)) → leaf o ≡ Some ended → ⊥
leaf-ended None h = cc
leaf-ended (Some os) h = cc

start-ended : (x : Open) (o : Option (List Open)) → start x o ≡ Some ended → ⊥
start-ended x None h = cc
start-ended x (Some os) h = cc

-- an event after which the stream is ended is its end
pub event-ends : (event : Event) (m : Meaning) → after event m ≡ Some ended → passed_of event ≡ w.StreamEnd
event-ends e.StreamStart ahead h = absurd (cc)
event-ends e.StreamStart (open_in os) h = absurd (cc)
event-ends e.StreamStart ended h = absurd (cc)
event-ends e.StreamEnd m h = refl
event-ends e.DocumentStart ahead h = absurd (cc)
event-ends e.DocumentStart (open_in []) h = absurd (cc)
event-ends e.DocumentStart (open_in (o ∷ os)) h = absurd (cc)
event-ends e.DocumentStart ended h = absurd (cc)
event-ends e.DocumentEnd ahead h = absurd (cc)
event-ends e.DocumentEnd (open_in []) h = absurd (cc)
event-ends e.DocumentEnd (open_in (due ∷ os)) h = absurd (cc)
event-ends e.DocumentEnd (open_in (given ∷ [])) h = absurd (cc)
event-ends e.DocumentEnd (open_in (given ∷ (o ∷ os))) h = absurd (cc)
event-ends e.DocumentEnd (open_in (sequence ∷ os)) h = absurd (cc)
event-ends e.DocumentEnd (open_in (key ∷ os)) h = absurd (cc)
event-ends e.DocumentEnd (open_in (value ∷ os)) h = absurd (cc)
event-ends e.DocumentEnd ended h = absurd (cc)
event-ends (e.Alias id) m h = absurd (leaf-ended (given_at m) h)
event-ends (e.Scalar text style id tag) m h = absurd (leaf-ended (given_at m) h)
event-ends (e.SequenceStart id) m h = absurd (start-ended sequence (given_at m) h)
event-ends e.SequenceEnd ahead h = absurd (cc)
event-ends e.SequenceEnd (open_in []) h = absurd (cc)
event-ends e.SequenceEnd (open_in (due ∷ os)) h = absurd (cc)
event-ends e.SequenceEnd (open_in (given ∷ os)) h = absurd (cc)
event-ends e.SequenceEnd (open_in (sequence ∷ os)) h = absurd (cc)
event-ends e.SequenceEnd (open_in (key ∷ os)) h = absurd (cc)
event-ends e.SequenceEnd (open_in (value ∷ os)) h = absurd (cc)
event-ends e.SequenceEnd ended h = absurd (cc)
event-ends (e.MappingStart id) m h = absurd (start-ended key (given_at m) h)
event-ends e.MappingEnd ahead h = absurd (cc)
event-ends e.MappingEnd (open_in []) h = absurd (cc)
event-ends e.MappingEnd (open_in (due ∷ os)) h = absurd (cc)
event-ends e.MappingEnd (open_in (given ∷ os)) h = absurd (cc)
event-ends e.MappingEnd (open_in (sequence ∷ os)) h = absurd (cc)
event-ends e.MappingEnd (open_in (key ∷ os)) h = absurd (cc)
event-ends e.MappingEnd (open_in (value ∷ os)) h = absurd (cc)
event-ends e.MappingEnd ended h = absurd (cc)

-- after the stream's end comes the stream's end
pub event-behind : (event : Event) (m : Meaning) → after event ended ≡ Some m → passed_of event ≡ w.StreamEnd
event-behind e.StreamStart m h = absurd (cc)
event-behind e.StreamEnd m h = refl
event-behind e.DocumentStart m h = absurd (cc)
event-behind e.DocumentEnd m h = absurd (cc)
event-behind (e.Alias id) m h = absurd (cc)
event-behind (e.Scalar text style id tag) m h = absurd (cc)
event-behind (e.SequenceStart id) m h = absurd (cc)
event-behind e.SequenceEnd m h = absurd (cc)
event-behind (e.MappingStart id) m h = absurd (cc)
event-behind e.MappingEnd m h = absurd (cc)

-- where a stream's end may come it ends the stream
pub end-ends : (m n : Meaning) → after e.StreamEnd m ≡ Some n → n ≡ ended
end-ends ahead n h = absurd (cc)
end-ends (open_in []) n h = cc
end-ends (open_in (o ∷ os)) n h = absurd (cc)
end-ends ended n h = cc

-- only the last stage means that the stream is ended
pub stage-ended : (x : Stage) (ys : List State) → meaning_in x ys ≡ ended → x ≡ g.Ended
stage-ended g.Ahead ys h = absurd (cc)
stage-ended (g.Open y) ys h = absurd (cc)
stage-ended g.Ended ys h = refl

pub ended-stage : (x : Stage) (ys : List State) → x ≡ g.Ended → meaning_in x ys ≡ ended
ended-stage x ys h = let f : Stage → Meaning = λ v. meaning_in v ys in ap f h

-- an event after which loading of all stops is the stream's end
pub last-is-end : (event : Event) → goes true event ≡ false → event ≡ e.StreamEnd
last-is-end e.StreamStart h = absurd (cc)
last-is-end e.StreamEnd h = refl
last-is-end e.DocumentStart h = absurd (cc)
last-is-end e.DocumentEnd h = absurd (cc)
last-is-end (e.Alias id) h = absurd (cc)
last-is-end (e.Scalar text style id tag) h = absurd (cc)
last-is-end (e.SequenceStart id) h = absurd (cc)
last-is-end e.SequenceEnd h = absurd (cc)
last-is-end (e.MappingStart id) h = absurd (cc)
last-is-end e.MappingEnd h = absurd (cc)

-- an event after which loading goes on isn't the stream's end
pub going-no-end : (event : Event) → goes true event ≡ true → not (is_stream_end event) ≡ true
going-no-end e.StreamStart h = refl
going-no-end e.StreamEnd h = absurd (cc)
going-no-end e.DocumentStart h = refl
going-no-end e.DocumentEnd h = refl
going-no-end (e.Alias id) h = refl
going-no-end (e.Scalar text style id tag) h = refl
going-no-end (e.SequenceStart id) h = refl
going-no-end e.SequenceEnd h = refl
going-no-end (e.MappingStart id) h = refl
going-no-end e.MappingEnd h = refl

pub going-on : (multi : Bool) (kind : Passed) → stops multi kind ≡ false → kind ≡ w.StreamEnd → ⊥
going-on multi w.StreamEnd h at = cc
going-on multi w.DocumentEnd h at = cc
going-on multi w.Other h at = cc

-- an event that isn't passed as the stream's end isn't it
pub no-end : (event : Event) (kind : Passed) → kind ≡ passed_of event → (kind ≡ w.StreamEnd → ⊥) → is_stream_end event ≡ false
no-end e.StreamStart kind same h = refl
no-end e.StreamEnd kind same h = absurd (h same)
no-end e.DocumentStart kind same h = refl
no-end e.DocumentEnd kind same h = refl
no-end (e.Alias id) kind same h = refl
no-end (e.Scalar text style id tag) kind same h = refl
no-end (e.SequenceStart id) kind same h = refl
no-end e.SequenceEnd kind same h = refl
no-end (e.MappingStart id) kind same h = refl
no-end e.MappingEnd kind same h = refl
