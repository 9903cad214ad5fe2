-- What is taken of the tokens that a scanner owes.
use Rattle.snap_parse_events.proofs.Prelude.{◌≡◌, List, [], ◌∷◌, Option, None, Some, Ok, Err, subst, ScanError, Token, TokenType, IsFirst, GivesOwed, Scan, Tokens, WillTakeFrom, IsTakenFirst, TakesFirst}

first-taken : (t : Token) (new : Scan) (ts : List TokenType) → new.error ≡ None → IsFirst t new.state ts → IsTakenFirst t (record { scanner = new; held = None }) ts
first-taken t new [] kept is = absurd is
first-taken t new (y ∷ ys) kept is = (is.0, (kept, is.1))

pub taken-some : (old held : Option Token) (scan new : Scan) (r : Option Token) (t : Token) (ts : List TokenType) → old ≡ None → held ≡ None → r ≡ Some t
    → GivesOwed scan (Ok r) new → new.error ≡ None → WillTakeFrom old scan ts → IsTakenFirst t (record { scanner = new; held = held }) ts
taken-some (Some x) held scan new r t ts none nothing is gives kept will = absurd (cc)
taken-some None (Some x) scan new r t ts none nothing is gives kept will = absurd (cc)
taken-some None None scan new None t ts none nothing is gives kept will = absurd (cc)
taken-some None None scan new (Some u) t ts none nothing is gives kept will =
    let same : u ≡ t = cc in
    let P : Token → Type 0 = λ v. IsFirst v new.state ts in
    first-taken t new ts kept (subst P same (gives ts will.0 will.1))

pub taken-not : (old : Option Token) (scan new : Scan) (e : ScanError) (f : Tokens) (ts : List TokenType) → old ≡ None → GivesOwed scan (Err e) new → WillTakeFrom old scan ts
    → TakesFirst (Err e) f ts
taken-not (Some x) scan new e f ts none gives will = absurd (cc)
taken-not None scan new e f [] none gives will = tt
taken-not None scan new e f (y ∷ ys) none gives will = gives (y ∷ ys) will.0 will.1
