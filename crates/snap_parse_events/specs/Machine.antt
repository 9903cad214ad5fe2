-- What the contracts of the states see of a parser.
use Rattle.std.specs.Prelude.{◌≡◌, ℕ, ◌+◌, ◌*◌, ◌≤◌, List, true, All, Some, Result, Ok, Err, IfOk, OnOk, OnErr, if◌then◌else◌}
use Rattle.snap_scan_tokens.specs.declared.info.ScanError.{ScanError}
use Rattle.snap_scan.specs.Sound.{Holds}
use Rattle.snap_scan_tokens.specs.Mark.{Mark}
use Rattle.snap_parse_events.specs.declared.event.Event.{Event}
use Rattle.snap_parse_events.specs.Meaning.{Open, Meaning, open_in, given_in, after}
use Rattle.snap_parse_events.specs.declared.machine.Machine.{Machine}
use Rattle.snap_parse_events.specs.declared.state.Context.{Context}
use Rattle.snap_parse_events.specs.declared.state.State.{State}
use Rattle.snap_parse_events.specs.declared.state.Stage.{Stage}
use Rattle.snap_parse_events.specs.declared.state.Stage.TheVariants as g
use Rattle.snap_parse_events.specs.declared.tokens.Tokens.{Tokens}
use Rattle.snap_parse_events.specs.Context.{takes_indentless}
use Rattle.snap_parse_events.specs.Feed.{source_of, tokens_left, starts, Feeds, Failed}
use Rattle.snap_parse_events.specs.Names.{Naming}
use Rattle.snap_parse_events.specs.Place.{Spot, opened, below, meaning_of, weighed, weight_below, pending, signs_of}

abbrev pub spot_of : Machine → Spot
spot_of m = record { stage = m.stage; outer = m.outer.items }

abbrev pub meaning_now : Machine → Meaning
meaning_now m = meaning_of (spot_of m)

-- how many events can come at most before the stream's end
abbrev pub events_in : Tokens → Spot → ℕ
events_in f p = 4 * tokens_left f + pending p

abbrev pub events_now : Machine → ℕ
events_now m = events_in m.tokens (spot_of m)

-- the signs of a state stand in the source
abbrev pub HasSigns : List ℕ → State → Type 0
HasSigns source y = Holds source (signs_of y)

-- what holds in an open state
pub record IsSoundIn (source : List ℕ) (f : Tokens) (y : State) (ys : List State) : Type 0 where
  pub feeds : Feeds source f
  pub here : HasSigns source y
  pub outer : All (HasSigns source) ys

-- before StreamStart
pub record IsSoundAhead (source : List ℕ) (f : Tokens) (ys : List State) : Type 0 where
  pub feeds : Feeds source f
  pub start : starts f ≡ true
  pub outer : All (HasSigns source) ys

-- what holds between two events, of a parser that has not failed
abbrev pub IsSoundAt : List ℕ → Tokens → Stage → List State → Type 0
IsSoundAt source f g.Ahead ys = IsSoundAhead source f ys
IsSoundAt source f (g.Open y) ys = IsSoundIn source f y ys
IsSoundAt source f g.Ended ys = source_of f ≡ source

abbrev pub IsSound : List ℕ → Tokens → Spot → Type 0
IsSound source f p = IsSoundAt source f p.stage p.outer

-- the call leaves a sound parser, or the source explains its error
abbrev pub StaysSound : {T : Type 0} → List ℕ → Result T ScanError → Tokens → Spot → Type 0
StaysSound source (Ok _) f p = IsSound source f p
StaysSound source (Err e) f p = Failed source e f

-- the call keeps a parser of this source sound, that stands in this state
abbrev pub KeepsSoundFrom : {T : Type 0} → List ℕ → State → Result T ScanError → Machine → Machine → Type 0
KeepsSoundFrom source y r old new =
    IsSoundIn source old.tokens y old.outer.items → StaysSound source r new.tokens (spot_of new)

abbrev pub KeepsSoundIn : {T : Type 0} → State → Result T ScanError → Machine → Machine → Type 0
KeepsSoundIn y r old new = (source : List ℕ) → KeepsSoundFrom source y r old new

-- the call gives an event that may come in this state, and leaves what is open after it
abbrev pub GivesIn : State → Result (Event × Mark) ScanError → Machine → Machine → Type 0
GivesIn y r old new = IfOk r (λ given. after given.0 (open_in (opened y (below old.outer.items))) ≡ Some (meaning_now new))

-- one event less is to come
abbrev pub PaysIn : State → Result (Event × Mark) ScanError → Machine → Machine → Type 0
PaysIn y r old new = OnOk r (events_now new + 1 ≤ 4 * tokens_left old.tokens + weighed y (weight_below old.outer.items))

-- the names are those after the event
abbrev pub KeepsNames : Result (Event × Mark) ScanError → Machine → Machine → Type 0
KeepsNames r old new = IfOk r (λ given. Naming given.0 old.anchors new.anchors)

-- an error leaves where the parser stands
abbrev pub StaysOnError : Result (Event × Mark) ScanError → Machine → Machine → Type 0
StaysOnError r old new = OnErr r (spot_of new ≡ spot_of old)

-- the call gives the first event of a node, which may come wherever a node may that is followed by this state
abbrev pub GivesNode : State → Result (Event × Mark) ScanError → Machine → Machine → Type 0
GivesNode y r old new =
    IfOk r (λ given. (os : List Open) → given_in os ≡ Some (opened y (below old.outer.items)) → after given.0 (open_in os) ≡ Some (meaning_now new))

-- how many events can come at most where so many tokens are left, and a state is to follow
abbrev pub events_before : ℕ → State → Machine → ℕ
events_before n y m = 4 * n + weighed y (weight_below m.outer.items)

-- a sequence without a start of its own takes no token
abbrev pub if_indentless : Context → ℕ
if_indentless c = if takes_indentless c then 3 else 0
