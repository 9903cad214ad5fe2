-- The tokens that a parser will take.
use Rattle.std.specs.Prelude.{◌≡◌, List, [], ◌∷◌, Option, None, Some, Result, Ok, Err}
use Rattle.snap_scan_tokens.specs.declared.info.ScanError.{ScanError}
use Rattle.snap_scan_tokens.specs.declared.info.ScanError.TheVariants.{OutOfMemory}
use Rattle.snap_scan_tokens.specs.declared.token.Token.{Token}
use Rattle.snap_scan_tokens.specs.declared.token.TokenType.{TokenType}
use Rattle.snap_scan.specs.Owed.{Owes, type_of}
use Rattle.snap_scan.specs.Scan.{Scan}
use Rattle.snap_parse_events.specs.declared.tokens.Tokens.{Tokens}

-- a scanner that hasn't failed owes these tokens
abbrev pub OwesAll : Scan → List TokenType → Type 0
OwesAll scan ts = (scan.error ≡ None) × Owes scan.state ts

abbrev pub WillTakeFrom : Option Token → Scan → List TokenType → Type 0
WillTakeFrom None scan ts = OwesAll scan ts
WillTakeFrom (Some t) scan [] = ⊥
WillTakeFrom (Some t) scan (y ∷ ys) = (type_of t ≡ y) × OwesAll scan ys

-- the token that was put back, and then those that the scanner owes
abbrev pub WillTake : Tokens → List TokenType → Type 0
WillTake f ts = WillTakeFrom f.held f.scanner ts

-- the token is the first of those that would be taken, and the others are still to come
abbrev pub IsTakenFirst : Token → Tokens → List TokenType → Type 0
IsTakenFirst t f [] = ⊥
IsTakenFirst t f (y ∷ ys) = (type_of t ≡ y) × WillTake f ys

-- the first is taken, or there was not enough memory
abbrev pub TakesFirst : Result Token ScanError → Tokens → List TokenType → Type 0
TakesFirst (Ok t) f ts = IsTakenFirst t f ts
TakesFirst (Err error) f [] = Unit {0}
TakesFirst (Err error) f (y ∷ ys) = error ≡ OutOfMemory

-- these tokens will still be taken, or there was not enough memory
abbrev pub StillTakes : {T : Type 0} → Result T ScanError → Tokens → List TokenType → Type 0
StillTakes (Ok _) f ts = WillTake f ts
StillTakes (Err error) f ts = error ≡ OutOfMemory
