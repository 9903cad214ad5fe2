-- What a scanner is seen as.
use Rattle.std.specs.Prelude.{OnOk, ℕ, ◌≡◌, ◌<◌, ◌≤◌, ◌⊎◌, List, true, false, Option, Some, None, Result, Ok, Err, is_some}
use Rattle.snap_scan_tokens.specs.declared.token.Token.{Token}
use Rattle.snap_scan_tokens.specs.declared.info.ScanError.{ScanError}
use Rattle.snap_scan.specs.State.{State, start_state, left_of, has_ended}
use Rattle.snap_scan.specs.Sound.{IsShown, IsFounded, IsSound, is_start, is_end, is_start_ahead}

-- the characters before the first NUL, what the fetching works on, and the error that is kept
pub record Scan : Type 0 where
  pub source : List ℕ
  pub state : State
  pub error : Option ScanError

-- a scanner before its first token
abbrev pub start_scan : List ℕ → Scan
start_scan cs = record { source = cs; state = start_state cs; error = None }

-- how many tokens can still be given at most: none after a failure, or once StreamEnd was given
abbrev pub left_while : Option ScanError → State → ℕ
left_while (Some e) s = 0
left_while None s = left_of s

-- how many tokens a scanner can still give at most
abbrev pub left : Scan → ℕ
left scan = left_while scan.error scan.state

-- the call answers this error and no other
abbrev pub Fails : {T : Type 0} → Result T ScanError → ScanError → Type 0
Fails (Ok _) e = ⊥
Fails (Err found) e = found ≡ e

-- a scanner that has failed stays as it is
abbrev pub IsKept : Scan → Scan → Type 0
IsKept old new = is_some old.error ≡ true → new ≡ old

-- once StreamEnd was given a call gives this and changes nothing, if nothing has failed
abbrev pub GivesAtEnd : {T : Type 0} → Scan → Result T ScanError → T → Scan → Type 0
GivesAtEnd old r last new = has_ended old.state ≡ true → old.error ≡ None → (r ≡ Ok last) × (new ≡ old)

-- the error that the call answers is kept
abbrev pub Keeps : {T : Type 0} → Result T ScanError → Scan → Type 0
Keeps (Ok _) new = new.error ≡ None
Keeps (Err e) new = new.error ≡ Some e

-- a token takes one from what is left at least, and no answer adds to it
abbrev pub Pays : Result (Option Token) ScanError → ℕ → ℕ → Type 0
Pays (Ok None) old new = new ≤ old
Pays (Ok (Some token)) old new = new < old
Pays (Err e) old new = Unit {0}

-- None is answered where StreamEnd was given, and changes nothing; a token only where it was not
abbrev pub IsNoneAtEnd : Result (Option Token) ScanError → State → State → Type 0
IsNoneAtEnd (Ok None) old new = (has_ended old ≡ true) × (new ≡ old)
IsNoneAtEnd (Ok (Some token)) old new = has_ended old ≡ false
IsNoneAtEnd (Err e) old new = Unit {0}

-- `next` gives no token: StreamEnd was given, or the scanner has failed, now or before
abbrev pub HasStopped : Scan → Scan → Type 0
HasStopped old new = (has_ended old.state ≡ true) ⊎ (is_some new.error ≡ true)

-- `next` gives a token: StreamEnd wasn't given, and nothing has failed
abbrev pub IsGiven : Scan → Scan → Type 0
IsGiven old new = (has_ended old.state ≡ false) × (new.error ≡ None)

-- StreamStart is given where it is ahead, and no more from then on; and StreamEnd where no token is to come
abbrev pub IsNext : Token → State → State → Type 0
IsNext token old new = (is_start token.1 ≡ is_start_ahead old) × (is_start_ahead new ≡ false) × (is_end token.1 ≡ has_ended new)

-- a token that is answered stands in the source, and in its turn
abbrev pub GivesNext : List ℕ → Result (Option Token) ScanError → State → State → Type 0
GivesNext source (Ok (Some token)) old new = IsShown source token × IsNext token old new
GivesNext source (Ok None) old new = Unit {0}
GivesNext source (Err e) old new = Unit {0}

-- a call that gives no token changes nothing in what is to come first and last
abbrev pub KeepsOrder : {T : Type 0} → Result T ScanError → State → State → Type 0
KeepsOrder r old new = OnOk r ((is_start_ahead new ≡ is_start_ahead old) × (has_ended new ≡ has_ended old))

-- what is true of every scanner: it is sound, or the source explains why it failed
abbrev pub IsWholeWhile : Option ScanError → List ℕ → State → Type 0
IsWholeWhile None source s = IsSound (is_start_ahead s) source s
IsWholeWhile (Some e) source s = IsFounded source e

abbrev pub IsWhole : Scan → Type 0
IsWhole scan = IsWholeWhile scan.error scan.source scan.state
