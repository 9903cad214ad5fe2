-- The events that a parser hands on, one after the other.
use Rattle.std.specs.Prelude.{◌≡◌, ◌⊎◌, Bool, true, false, not, List, [], ◌∷◌, ◌++◌, None, Some}
use Rattle.std.specs.List.{list_all}
use Rattle.snap_scan_tokens.specs.declared.info.ScanError.{ScanError}
use Rattle.snap_scan_tokens.specs.declared.info.ScanError.TheVariants.{OutOfMemory}
use Rattle.snap_parse_events.specs.declared.error.LoadError.{LoadError}
use Rattle.snap_parse_events.specs.declared.error.LoadError.TheVariants as l
use Rattle.snap_parse_events.specs.Errors.{load_error}
use Rattle.snap_parse_events.specs.declared.event.Event.{Event}
use Rattle.snap_parse_events.specs.declared.event.Event.TheVariants as e
use Rattle.snap_parse_events.specs.Streams.{IsStream}
use Rattle.snap_parse_events.specs.declared.load.Passed.{Passed}
use Rattle.snap_parse_events.specs.declared.load.Passed.TheVariants as w
use Rattle.snap_parse_events.specs.Names.{forgotten}
use Rattle.snap_parse_events.specs.Parsing.{Parsing, IsNext, Fails}

-- at a document's start all names are forgotten
abbrev pub forgetting : Event → Parsing → Parsing
forgetting e.DocumentStart p = record p { names = forgotten p.names }
forgetting _ p = p

-- one event of `next`, and what is forgotten at it
pub record Steps (event : Event) (old new : Parsing) : Type 0 where
  pub between : Parsing
  pub next : IsNext event old between
  pub behind : new ≡ forgetting event between

-- the events that a parser gives on its way
pub data Run : Parsing → List Event → Parsing → Type 0 where
  run_start : (p : Parsing) → Run p [] p
  run_more : (p q r : Parsing) (events : List Event) (event : Event) → Run p events q → Steps event q r → Run p (events ++ event ∷ []) r

abbrev pub passed_of : Event → Passed
passed_of e.StreamEnd = w.StreamEnd
passed_of e.DocumentEnd = w.DocumentEnd
passed_of _ = w.Other

-- loading stops at the stream's end, and unless it is to load all at a document's end
abbrev pub stops : Bool → Passed → Bool
stops multi w.StreamEnd = true
stops multi w.DocumentEnd = not multi
stops multi w.Other = false

abbrev pub goes : Bool → Event → Bool
goes multi event = not (stops multi (passed_of event))

-- a receiver that tells its events has got these more
abbrev pub GetsMore : {R : Type 0} → (R → List Event → Type 0) → R → R → List Event → Type 0
GetsMore tells old new events = (before : List Event) → tells old before → tells new (before ++ events)

-- one event is handed on
pub record HandsOn {R : Type 0} (tells : R → List Event → Type 0) (old new : R) (p q : Parsing) (kind : Passed) : Type 0 where
  pub event : Event
  pub steps : Steps event p q
  pub passed : kind ≡ passed_of event
  pub gets : GetsMore tells old new (event ∷ [])

-- the receiver got these events, after none of which loading stops, while the parser went from p to q
pub record Passing {R : Type 0} (tells : R → List Event → Type 0) (multi : Bool) (old new : R) (p q : Parsing) : Type 0 where
  pub events : List Event
  pub going : list_all (goes multi) events ≡ true
  pub run : Run p events q
  pub gets : GetsMore tells old new events

-- the receiver got the events up to the first after which loading stops, while the parser went from p to q
pub record LoadsUpTo {R : Type 0} (tells : R → List Event → Type 0) (multi : Bool) (old new : R) (p q : Parsing) : Type 0 where
  pub events : List Event
  pub last : Event
  pub going : list_all (goes multi) events ≡ true
  pub stops : goes multi last ≡ false
  pub between : Parsing
  pub run : Run p events between
  pub steps : Steps last between q
  pub gets : GetsMore tells old new (events ++ last ∷ [])

-- the parser fails, for good
pub record Refuses (e : LoadError) (p q : Parsing) : Type 0 where
  pub why : ScanError
  pub told : e ≡ load_error why
  pub fails : Fails why p q

-- the receiver has no memory for an event, and the parser goes on after it
pub record Loses (e : LoadError) (p q : Parsing) : Type 0 where
  pub memory : e ≡ l.OutOfMemory
  pub event : Event
  pub steps : Steps event p q
  pub well : q.error ≡ None

-- why no event is handed on
abbrev pub Breaks : LoadError → Parsing → Parsing → Type 0
Breaks e p q = Refuses e p q ⊎ Loses e p q

-- the receiver got the events before the error, and no others, while the parser went from p to q
pub record LoadsPart {R : Type 0} (tells : R → List Event → Type 0) (multi : Bool) (e : LoadError) (old new : R) (p q : Parsing) : Type 0 where
  pub to : Parsing
  pub part : Passing tells multi old new p to
  pub breaks : Breaks e to q

-- the error that a parser has after that one: a refusal of the text for good; its own out of memory, or none where the receiver had no
-- memory
abbrev pub Leaves : LoadError → Parsing → Parsing → Type 0
Leaves (l.Scan why) p q = q.error ≡ Some why
Leaves l.InsideDocument p q = q ≡ p
Leaves l.OutOfMemory p q = (q.error ≡ None) ⊎ (q.error ≡ Some OutOfMemory)

-- the receiver got the events of a whole stream
pub record TellsStream {R : Type 0} (tells : R → List Event → Type 0) (old new : R) : Type 0 where
  pub events : List Event
  pub stream : IsStream events
  pub gets : GetsMore tells old new events
