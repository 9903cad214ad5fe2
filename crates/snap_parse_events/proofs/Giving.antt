-- What a parser will give.
use Rattle.snap_parse_events.proofs.Prelude.{◌≡◌, List, [], ◌∷◌, Option, None, Some, ℕ, refl, sym, ◌∙◌, ap, subst, ScanError, TokenType, Owes, start_scan, Event, after, Stage, Tokens, start_tokens, spot_of, meaning_now, Names, Naming, Parsing, WillGive, GoesOn, IsNext, Fails, Spot, start_spot, WillTake, Parsed, parse_step, stage_step, Yields, finished, then_one}
use Rattle.snap_scan_tokens.specs.declared.info.ScanError.TheVariants.{OutOfMemory}
use Rattle.snap_parse_events.specs.declared.machine.Machine.{Machine}
use Rattle.snap_parse_events.specs.declared.state.Stage.TheVariants as g

-- a new parser gives what the tokens yield that its scanner owes
pub new-gives : (source : List ℕ) (f : Tokens) (p : Spot) (names : Names) (tokens : List TokenType) (events : List Event) → f ≡ start_tokens source → p ≡ start_spot → Owes (start_scan source).state tokens
    → Yields start_spot tokens events → WillGive (record { tokens = f; spot = p; names = names; error = None }) events
new-gives source f p names tokens events is at owes yields =
    let P : Tokens → Type 0 = λ v. WillTake v tokens in
    let Q : Spot → Type 0 = λ v. Yields v tokens events in
    let first : WillTake (start_tokens source) tokens = (refl, owes) in
    record { well = refl; tokens = tokens; takes = subst P (sym is) first; yields = subst Q (sym at) yields }

-- the step that gives the first of the events that tokens yield
pub record StepsFirst (p : Spot) (ts : List TokenType) (event : Event) (events : List Event) : Type 0 where
  pub found : Parsed
  pub step : parse_step p ts ≡ Some found
  pub first : found.event ≡ event
  pub yields : Yields found.spot found.rest events

pub steps-first : (p : Spot) (ts : List TokenType) (all : List Event) (event : Event) (events : List Event) → Yields p ts all → all ≡ event ∷ events → StepsFirst p ts event events
steps-first p ts _ event events (finished _ _ h) same = absurd (cc)
steps-first p ts _ event events (then_one _ _ r es step more) same =
    let is : r.event ≡ event = cc in
    let tail : es ≡ events = cc in
    let P : List Event → Type 0 = λ v. Yields r.spot r.rest v in
    record { found = r; step = step; first = is; yields = subst P tail more }

-- where no event is yielded the stream is ended, and where it is ended none is
pub none-ended : (p : Spot) (ts : List TokenType) (all : List Event) → Yields p ts all → all ≡ [] → p.stage ≡ g.Ended
none-ended p ts _ (finished _ _ h) same = h
none-ended p ts _ (then_one _ _ r es step more) same = absurd (cc)

pub ended-none : (p : Spot) (ts : List TokenType) (all : List Event) → Yields p ts all → p.stage ≡ g.Ended → all ≡ []
ended-none p ts _ (finished _ _ h) at = refl
ended-none p ts _ (then_one _ _ r es step more) at =
    let f : Stage → Option Parsed = λ v. stage_step v p.outer ts in
    let none : parse_step p ts ≡ None = ap f at in
    absurd (cc)

-- what a step of the machine gives is the first of what the parser would give
pub goes-on : (p q : Parsing) (event : Event) → q.error ≡ None
    → ((ts : List TokenType) (found : Parsed) → WillTake p.tokens ts → parse_step p.spot ts ≡ Some found → (event ≡ found.event) × (q.spot ≡ found.spot) × WillTake q.tokens found.rest)
    → GoesOn event p q
goes-on p q event well twin = λ first others will.
    let f = steps-first p.spot will.tokens (first ∷ others) first others will.yields refl in
    let t = twin will.tokens f.found will.takes f.step in
    let P : Spot → Type 0 = λ v. Yields v f.found.rest others in
    (t.0 ∙ f.first, record { well = well; tokens = f.found.rest; takes = t.2; yields = subst P (sym t.1) f.yields })

-- only memory can be wanting where the events are known
refused-yields : (p : Spot) (ts : List TokenType) (all : List Event) (P : Type 0) → Yields p ts all → (p.stage ≡ g.Ended → P) → ((found : Parsed) → parse_step p ts ≡ Some found → P) → P
refused-yields p ts _ P (finished _ _ h) calm refused = calm h
refused-yields p ts _ P (then_one _ _ r es step more) calm refused = refused r step

pub refused : (p : Parsing) (P : Type 0) → (p.spot.stage ≡ g.Ended → P) → ((ts : List TokenType) (found : Parsed) → WillTake p.tokens ts → parse_step p.spot ts ≡ Some found → P) → (events : List Event)
    → WillGive p events → P
refused p P calm twin events will = refused-yields p.spot will.tokens events P will.yields calm (λ found step. twin will.tokens found will.takes step)

-- a parser as the machine in it and its error are seen
abbrev pub seen : Machine → Option ScanError → Parsing
seen m error = record { tokens = m.tokens; spot = spot_of m; names = m.anchors; error = error }

-- an event of the machine is the next of the parser
pub next-event : (event : Event) (p : Parsing) (m n : Machine) (error : Option ScanError) → seen m error ≡ p → error ≡ None → after event (meaning_now m) ≡ Some (meaning_now n)
    → Naming event m.anchors n.anchors
    → ((ts : List TokenType) (found : Parsed) → WillTake m.tokens ts → parse_step (spot_of m) ts ≡ Some found → (event ≡ found.event) × (spot_of n ≡ found.spot) × WillTake n.tokens found.rest)
    → IsNext event p (seen n error)
next-event event p m n error is well allowed names twin =
    let P : Parsing → Type 0 = λ v. IsNext event v (seen n error) in
    let next : IsNext event (seen m error) (seen n error) = record { allowed = allowed; names = names; goes_on = goes-on (seen m error) (seen n error) event well twin } in
    subst P is next

-- an error of the machine is out of memory where the events are known
pub next-refused : (e : ScanError) (p : Parsing) (m : Machine) (error : Option ScanError) → seen m error ≡ p → (m.stage ≡ g.Ended → e ≡ OutOfMemory)
    → ((ts : List TokenType) (found : Parsed) → WillTake m.tokens ts → parse_step (spot_of m) ts ≡ Some found → e ≡ OutOfMemory) → (events : List Event) → WillGive p events → e ≡ OutOfMemory
next-refused e p m error is calm twin events will =
    let P : Parsing → Type 0 = λ v. WillGive v events in
    refused (seen m error) (e ≡ OutOfMemory) calm twin events (subst P (sym is) will)

-- an error of the machine is one that the parser fails with
pub next-fails : (why : ScanError) (p : Parsing) (m n : Machine) (before kept : Option ScanError) → seen m before ≡ p → kept ≡ Some why → spot_of n ≡ spot_of m
    → ((events : List Event) → WillGive p events → why ≡ OutOfMemory) → Fails why p (seen n kept)
next-fails why p m n before kept is keeps stays known =
    let f : Parsing → Spot = λ v. v.spot in
    record { kept = keeps; stays = stays ∙ ap f is; known = known }
