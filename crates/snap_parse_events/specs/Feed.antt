-- The tokens that a parser can still take.
use Rattle.std.specs.Prelude.{◌≡◌, ◌+◌, ℕ, List, Bool, false, Option, None, Some, Result, Ok, Err}
use Rattle.snap_scan_tokens.specs.declared.token.Token.{Token}
use Rattle.snap_scan_tokens.specs.declared.info.ScanError.{ScanError}
use Rattle.snap_scan.specs.Scan.{start_scan, left}
use Rattle.snap_scan.specs.State.{State, has_ended}
use Rattle.snap_scan.specs.Sound.{IsShown, IsFounded, is_end, is_start_ahead}
use Rattle.snap_parse_events.specs.declared.tokens.Tokens.{Tokens}

abbrev pub source_of : Tokens → List ℕ
source_of f = f.scanner.source

abbrev pub start_tokens : List ℕ → Tokens
start_tokens source = record { scanner = start_scan source; held = None }

abbrev pub count_of : Option Token → ℕ
count_of None = 0
count_of (Some t) = 1

-- how many tokens can come at most
abbrev pub tokens_left : Tokens → ℕ
tokens_left f = count_of f.held + left f.scanner

-- a token that stands in the source; after StreamEnd the scanner has none
pub record IsTaken (source : List ℕ) (token : Token) (s : State) : Type 0 where
  pub shown : IsShown source token
  pub last : is_end token.1 ≡ has_ended s

-- a token is to come: the one that was put back, or one of the scanner
abbrev pub HasMore : List ℕ → Option Token → State → Type 0
HasMore source None s = has_ended s ≡ false
HasMore source (Some t) s = IsTaken source t s

-- what feeds a parser of this source while its stream is open
pub record Feeds (source : List ℕ) (f : Tokens) : Type 0 where
  pub of : source_of f ≡ source
  pub more : HasMore source f.held f.scanner.state

-- after a token that was taken: it stands in the source, and others are to come where it isn't StreamEnd
pub record Took (source : List ℕ) (token : Token) (f : Tokens) : Type 0 where
  pub of : source_of f ≡ source
  pub taken : IsTaken source token f.scanner.state
  pub on : is_end token.1 ≡ false → Feeds source f

-- an error that the source explains
pub record Failed (source : List ℕ) (e : ScanError) (f : Tokens) : Type 0 where
  pub of : source_of f ≡ source
  pub founded : IsFounded source e

-- a token is taken, or the source explains why none is
abbrev pub Takes : List ℕ → Result Token ScanError → Tokens → Type 0
Takes source (Ok token) f = Took source token f
Takes source (Err e) f = Failed source e f

-- the call leaves the feed as it should be, or the source explains its error
abbrev pub FeedsOn : {T : Type 0} → List ℕ → Result T ScanError → Tokens → Type 0
FeedsOn source (Ok _) f = Feeds source f
FeedsOn source (Err e) f = Failed source e f

-- StreamStart is the next token
abbrev pub starts_with : Option Token → State → Bool
starts_with None s = is_start_ahead s
starts_with (Some t) s = false

abbrev pub starts : Tokens → Bool
starts f = starts_with f.held f.scanner.state
