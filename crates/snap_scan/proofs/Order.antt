-- The order of StreamStart and StreamEnd among the tokens that are given.
use Rattle.snap_scan.proofs.Prelude.{◌≡◌, ◌∷◌, [], ℕ, Bool, true, false, List, Option, Some, None, Ok, length, subst, sym, ap, arith, refl, ◌∙◌, ◌==◌, ◌&&◌, MatchOption, not, ◌||◌, All-head, Token, ScanError, State, has_ended, given, Outcome, Leaves, step, IsShown, IsNoEnd, IsFounded, IsSound, IsSoundFrom, untouched, open_still, over, EndsStream, begins_stream, is_start, is_end, is_start_ahead, GivesSound, IsWholeWhile, GivesNext, Scan, Fails, IsKept, GivesAtEnd, is_some, Err}
use Rattle.snap_scan.proofs.Ending.{holding, not-both}
use Rattle.snap_scan.proofs.Growing.{step-holds}
use Rattle.snap_scan.proofs.Soundness.{sound-given}
use Rattle.snap_scan.proofs.Stepping.{step-over}

ahead-of : (started : Bool) (held : List Token) (ahead : Bool) → started ≡ true → begins_stream held ≡ ahead → (not started || begins_stream held) ≡ ahead
ahead-of started held ahead begun first = rw begun first

pub ahead-is : {ahead : Bool} → (source : List ℕ) (s : State) → IsSound ahead source s → is_start_ahead s ≡ ahead
ahead-is source s (untouched starts same) = ap (λ (v : State). is_start_ahead v) same ∙ sym starts
ahead-is source s (open_still is) = ahead-of s.started s.held _ is.started is.first
ahead-is source s (over is) = ahead-of s.started s.held _ is.started is.first

pub sound-ahead : {ahead : Bool} → (source : List ℕ) (s : State) → IsSound ahead source s → IsSound (is_start_ahead s) source s
sound-ahead source s is = let P : Bool → Type 0 = λ b. IsSound b source s in subst P (sym (ahead-is source s is)) is

going-on : (b : Bool) (n : ℕ) → b ≡ false → (b && n == 0) ≡ false
going-on b n going = rw going

last-of : (token : Token) (rest : List Token) (ended : Bool) → ended ≡ true → EndsStream (token ∷ rest) → is_end token.1 ≡ (ended && length rest == 0)
last-of token [] true ended is = is
last-of token (next ∷ rest) true ended is = is.0 ∙ sym (not-both true (length (next ∷ rest)) (omega arith))
last-of token rest false ended is = absurd (cc)

first-shown : {ahead : Bool} → (source : List ℕ) (o : Bool) (mid new : State) (token : Token) → IsSoundFrom o ahead source 1 mid → mid.held ≡ token ∷ new.held
    → IsShown source token × (is_start token.1 ≡ ahead)
first-shown source o mid new token is taken =
    (All-head (IsShown source) token new.held (rw taken at is.tokens), ap (λ (v : List Token). begins_stream v) (sym taken) ∙ is.first)

-- the first held token is given
pub gives-sound : {ahead : Bool} → (source : List ℕ) (o : Option Token) (mid new : State) → IsSound ahead source mid
    → MatchOption o ((mid.held ≡ []) × (new ≡ mid)) (λ token. (mid.held ≡ token ∷ new.held) × (new ≡ given mid)) → GivesSound ahead source (Ok o) new
gives-sound source None mid new is taken = rw taken.1 is
gives-sound source (Some token) mid new (untouched starts same) taken =
    let none = ap (λ (v : State). length v.held) same in
    let some = ap (λ (v : List Token). length v) taken.0 in
    absurd (omega (arith, none, some))
gives-sound source (Some token) mid new (open_still is) taken =
    let shows = first-shown source false mid new token is taken.0 in
    let going : new.ended ≡ false = ap (λ (v : State). v.ended) taken.1 ∙ is.ended in
    let last = All-head IsNoEnd token new.held (rw taken.0 at is.ends) in
    (shows.0, shows.1, last ∙ sym (going-on new.ended (length new.held) going), rw taken.1 (open_still (sound-given false source 1 mid is)))
gives-sound source (Some token) mid new (over is) taken =
    let shows = first-shown source true mid new token is taken.0 in
    let ended : new.ended ≡ true = ap (λ (v : State). v.ended) taken.1 ∙ is.ended in
    (shows.0, shows.1, last-of token new.held new.ended ended (rw taken.0 at is.ends), rw taken.1 (over (sound-given true source 1 mid is)))

-- a fetch leaves it as it is whether StreamEnd was given
pub step-ended : (s new : State) → Leaves (step s) new → has_ended new ≡ has_ended s
step-ended s new l = by-end s.ended refl
  where
    by-end : (b : Bool) → s.ended ≡ b → has_ended new ≡ has_ended s
    by-end true ended = let P : Outcome → Type 0 = λ o. Leaves o new in ap (λ (v : State). has_ended v) (subst P (step-over s ended) l)
    by-end false going = holding new (step-holds s new going l) ∙ sym (going-on s.ended (length s.held) going)

-- so does any call that keeps to it in both cases
pub more-ended : (old new : State) → (has_ended old ≡ true → new ≡ old) → (has_ended old ≡ false → has_ended new ≡ false) → has_ended new ≡ has_ended old
more-ended old new same fresh = by-end (has_ended old) refl
  where
    by-end : (b : Bool) → has_ended old ≡ b → has_ended new ≡ has_ended old
    by-end true ended = ap (λ (v : State). has_ended v) (same ended)
    by-end false going = fresh going ∙ sym going

-- a scanner that hasn't failed is sound
pub whole-sound : (e : Option ScanError) (source : List ℕ) (s : State) → e ≡ None → IsWholeWhile e source s → IsSound (is_start_ahead s) source s
whole-sound None source s none is = is
whole-sound (Some e) source s none is = absurd (cc)

-- what is true of a scanner that hasn't failed, and of one that has
pub whole-open : {ahead : Bool} → (e : Option ScanError) (source : List ℕ) (s : State) → e ≡ None → IsSound ahead source s → IsWholeWhile e source s
whole-open e source s none is = let P : Option ScanError → Type 0 = λ v. IsWholeWhile v source s in subst P (sym none) (sound-ahead source s is)

pub whole-failed : (e : Option ScanError) (source : List ℕ) (s : State) (error : ScanError) → e ≡ Some error → IsFounded source error → IsWholeWhile e source s
whole-failed e source s error failed founded = let P : Option ScanError → Type 0 = λ v. IsWholeWhile v source s in subst P (sym failed) founded

-- what is promised of a token that is given
pub gives-next : (source : List ℕ) (o : Option Token) (old new : State) → GivesSound (is_start_ahead old) source (Ok o) new → GivesNext source (Ok o) old new
gives-next source None old new gives = tt
gives-next source (Some token) old new gives = (gives.0, (gives.1, ahead-is source new gives.3, gives.2))

pub sound-after : (ahead : Bool) (source : List ℕ) (o : Option Token) (new : State) → GivesSound ahead source (Ok o) new → IsSound (is_start_ahead new) source new
sound-after ahead source None new gives = sound-ahead source new gives
sound-after ahead source (Some token) new gives = sound-ahead source new gives.3

-- a call at the end, of a scanner that may have failed
pub none-after : (o : Option Token) (old new : Scan) → ((e : ScanError) → old.error ≡ Some e → Fails (Ok o) e) → GivesAtEnd old (Ok o) None new → has_ended old.state ≡ true
    → (o ≡ None) × (new ≡ old)
none-after o old new sticky last ended = by-error old.error refl
  where
    by-error : (e : Option ScanError) → old.error ≡ e → (o ≡ None) × (new ≡ old)
    by-error None is = let p = last ended is in let none = p.0 in (cc, p.1)
    by-error (Some e) is = absurd (sticky e is)

pub same-after : (e : ScanError) (old new : Scan) → IsKept old new → GivesAtEnd {T = Option Token} old (Err e) None new → has_ended old.state ≡ true → new ≡ old
same-after e old new same last ended = by-error old.error refl
  where
    by-error : (f : Option ScanError) → old.error ≡ f → new ≡ old
    by-error None is = let p = last ended is in let fails = p.0 in absurd (cc)
    by-error (Some f) is = let P : Option ScanError → Type 0 = λ v. is_some v ≡ true in same (subst P (sym is) refl)
