-- What a parser is seen as.
use Rattle.std.specs.Prelude.{◌≡◌, ℕ, List, ◌∷◌, Option, None, Some, Result, Ok, Err}
use Rattle.snap_scan_tokens.specs.declared.info.ScanError.{ScanError}
use Rattle.snap_scan_tokens.specs.declared.info.ScanError.TheVariants.{OutOfMemory}
use Rattle.snap_scan_tokens.specs.declared.token.TokenType.{TokenType}
use Rattle.snap_scan.specs.Sound.{IsFounded}
use Rattle.snap_parse_events.specs.declared.event.Event.{Event}
use Rattle.snap_parse_events.specs.Meaning.{Meaning, after}
use Rattle.snap_parse_events.specs.declared.tokens.Tokens.{Tokens}
use Rattle.snap_parse_events.specs.Feed.{source_of, start_tokens}
use Rattle.snap_parse_events.specs.Names.{Names, no_names, Naming}
use Rattle.snap_parse_events.specs.Place.{Spot, start_spot, meaning_of}
use Rattle.snap_parse_events.specs.Machine.{events_in, IsSound}
use Rattle.snap_parse_events.specs.Taking.{WillTake}
use Rattle.snap_parse_events.specs.Twin.{Yields}

-- the tokens that it takes, where it stands, the names that it knows, and the error that it keeps
pub record Parsing : Type 0 where
  pub tokens : Tokens
  pub spot : Spot
  pub names : Names
  pub error : Option ScanError

-- a parser before its first event
abbrev pub start_parsing : List ℕ → Parsing
start_parsing cs = record { tokens = start_tokens cs; spot = start_spot; names = no_names; error = None }

-- the characters before the first NUL
abbrev pub source : Parsing → List ℕ
source p = source_of p.tokens

-- whether the stream is ahead, open or ended, and what is open in it
abbrev pub meaning : Parsing → Meaning
meaning p = meaning_of p.spot

-- how many events can come at most before the stream's end
abbrev pub events_left : Parsing → ℕ
events_left p = events_in p.tokens p.spot

-- the events that a parser will give, one after the other, up to the stream's end: those of the tokens that it will take
pub record WillGive (p : Parsing) (events : List Event) : Type 0 where
  pub well : p.error ≡ None
  pub tokens : List TokenType
  pub takes : WillTake p.tokens tokens
  pub yields : Yields p.spot tokens events

-- the event is the first of those that the parser would give, and the others are still to come
abbrev pub GoesOn : Event → Parsing → Parsing → Type 0
GoesOn event old new = (first : Event) (others : List Event) → WillGive old (first ∷ others) → (event ≡ first) × WillGive new others

-- what a parser promises of an event that it gives: it is one that may come, the names are those after it, and it is the first of
-- those that the parser would give
pub record IsNext (event : Event) (old new : Parsing) : Type 0 where
  pub allowed : after event (meaning old) ≡ Some (meaning new)
  pub names : Naming event old.names new.names
  pub goes_on : GoesOn event old new

-- what a parser promises of an error that it fails with: it keeps it for good, and stands where it stood; where its events are known
-- only memory can be wanting
pub record Fails (why : ScanError) (old new : Parsing) : Type 0 where
  pub kept : new.error ≡ Some why
  pub stays : new.spot ≡ old.spot
  pub known : (events : List Event) → WillGive old events → why ≡ OutOfMemory

-- the error that the call answers is kept
abbrev pub KeepsError : {T : Type 0} → Result T ScanError → Parsing → Type 0
KeepsError (Ok _) new = new.error ≡ None
KeepsError (Err e) new = new.error ≡ Some e

-- what is true of every parser: it is sound, or the source explains why it failed
abbrev pub IsWholeWhile : Option ScanError → Tokens → Spot → Type 0
IsWholeWhile None f p = IsSound (source_of f) f p
IsWholeWhile (Some e) f p = IsFounded (source_of f) e
