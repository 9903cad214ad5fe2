-- Runs of a parser whose events are known.
use Rattle.snap_parse_events.proofs.Prelude.{◌≡◌, List, [], ◌∷◌, ◌++◌, Option, Some, Bool, true, false, not, refl, sym, ◌∙◌, ap, subst, append_assoc, list_all, Event, Meaning, ended, after, Passed, Parsing, meaning, WillGive, forgetting, Steps, Run, run_start, run_more, passed_of, stops, goes, GetsMore, Passing, LoadsUpTo, and_parts}
use Rattle.snap_parse_events.specs.declared.event.Event.TheVariants as e
use Rattle.snap_parse_events.specs.declared.load.Passed.TheVariants as w
use Rattle.snap_parse_events.proofs.Endings.{end-ends, event-ends, last-is-end, stage-ended, ended-stage}
use Rattle.snap_parse_events.proofs.Giving.{none-ended, ended-none}
use Rattle.snap_parse_events.proofs.Running.{join, step-allowed, step-behind}

-- a test of each element of a longer list
all-front : (f : Event → Bool) (xs : List Event) (x : Event) → list_all f (xs ++ x ∷ []) ≡ true → (list_all f xs ≡ true) × (f x ≡ true)
all-front f [] x h = (refl, (and_parts (f x) true h).0)
all-front f (y ∷ ys) x h =
    let k = and_parts (f y) (list_all f (ys ++ x ∷ [])) h in
    let l = all-front f ys x k.1 in
    (join (f y) (list_all f ys) k.0 l.0, l.1)

-- loading stops at the stream's end
end-stops : (multi : Bool) (event : Event) → passed_of event ≡ w.StreamEnd → goes multi event ≡ true → ⊥
end-stops multi event at go =
    let f : Passed → Bool = λ v. not (stops multi v) in
    let gone : goes multi event ≡ false = ap f at in
    cc

-- what is forgotten changes none of the events
forgets : (event : Event) (p : Parsing) (events : List Event) → WillGive p events → WillGive (forgetting event p) events
forgets e.StreamStart p events will = will
forgets e.StreamEnd p events will = will
forgets e.DocumentStart p events will = record { well = will.well; tokens = will.tokens; takes = will.takes; yields = will.yields }
forgets e.DocumentEnd p events will = will
forgets (e.Alias id) p events will = will
forgets (e.Scalar text style id tag) p events will = will
forgets (e.SequenceStart id) p events will = will
forgets e.SequenceEnd p events will = will
forgets (e.MappingStart id) p events will = will
forgets e.MappingEnd p events will = will

-- a step gives the first of the events, and leaves the others
step-first : (p q : Parsing) (event first : Event) (others : List Event) → Steps event p q → WillGive p (first ∷ others) → (event ≡ first) × WillGive q others
step-first p q event first others steps will =
    let f = steps.next.goes_on first others will in
    let P : Parsing → Type 0 = λ v. WillGive v others in
    (f.0, subst P (sym steps.behind) (forgets event steps.between others f.1))

-- where no event is left the stream is ended
nothing-left : (p : Parsing) → WillGive p [] → meaning p ≡ ended
nothing-left p will = ended-stage p.spot.stage p.spot.outer (none-ended p.spot will.tokens [] will.yields refl)

-- what is to come after the events of a run
pub record Splits (es all : List Event) (q : Parsing) : Type 0 where
  pub rest : List Event
  pub same : es ++ rest ≡ all
  pub will : WillGive q rest

step-splits : (p q : Parsing) (event : Event) (es all rest : List Event) → es ++ rest ≡ all → WillGive p rest → Steps event p q → (passed_of event ≡ w.StreamEnd → ⊥) → Splits (es ++ event ∷ []) all q
step-splits p q event es all [] same will steps go = absurd (go (step-behind event p q steps (nothing-left p will)))
step-splits p q event es all (x ∷ rest) same will steps go =
    let f = step-first p q event x rest steps will in
    let h : Event → List Event = λ v. es ++ (v ∷ rest) in
    record { rest = rest; same = append_assoc es (event ∷ []) rest ∙ ap h f.0 ∙ same; will = f.1 }

pub run-splits : (p q : Parsing) (es all : List Event) (multi : Bool) → Run p es q → list_all (goes multi) es ≡ true → WillGive p all → Splits es all q
run-splits p _ _ all multi (run_start _) go will = record { rest = all; same = refl; will = will }
run-splits p _ _ all multi (run_more _ q r es event run steps) go will =
    let k = all-front (goes multi) es event go in
    let s = run-splits p q es all multi run k.0 will in
    step-splits q r event es all s.rest s.same s.will steps (λ h. end-stops multi event h k.1)

-- while loading goes on the stream isn't ended
run-open : (p q : Parsing) (es : List Event) (multi : Bool) → Run p es q → list_all (goes multi) es ≡ true → (meaning p ≡ ended → ⊥) → meaning q ≡ ended → ⊥
run-open p _ _ multi (run_start _) go never h = never h
run-open p _ _ multi (run_more _ q r es event run steps) go never h =
    let k = all-front (goes multi) es event go in
    let f : Meaning → Option Meaning = λ v. Some v in
    end-stops multi event (event-ends event (meaning q) (step-allowed event q r steps ∙ ap f h)) k.1

-- where events are to come the stream isn't ended
some-left : (p : Parsing) (event : Event) (events : List Event) → WillGive p (event ∷ events) → meaning p ≡ ended → ⊥
some-left p event events will at =
    let none : event ∷ events ≡ [] = ended-none p.spot will.tokens (event ∷ events) will.yields (stage-ended p.spot.stage p.spot.outer at) in
    cc

-- the last event is the last of those that are known
last-whole : (p q : Parsing) (last : Event) (es all rest : List Event) → es ++ rest ≡ all → WillGive p rest → Steps last p q → last ≡ e.StreamEnd → (meaning p ≡ ended → ⊥) → es ++ last ∷ [] ≡ all
last-whole p q last es all [] same will steps is never = absurd (never (nothing-left p will))
last-whole p q last es all (x ∷ rest) same will steps is never =
    let f = step-first p q last x rest steps will in
    let f0 : Event → Option Meaning = λ v. after v (meaning p) in
    let at : meaning q ≡ ended = end-ends (meaning p) (meaning q) (ap f0 (sym is) ∙ step-allowed last p q steps) in
    let none : rest ≡ [] = ended-none q.spot f.1.tokens rest f.1.yields (stage-ended q.spot.stage q.spot.outer at) in
    let h : Event → List Event = λ v. es ++ (v ∷ []) in
    let l : List Event → List Event = λ v. es ++ (x ∷ v) in
    ap h f.0 ∙ ap l (sym none) ∙ same

-- what is loaded of all are the events that are known
loads-whole : {R : Type 0} (tells : R → List Event → Type 0) (old new : R) (p q : Parsing) (event : Event) (events : List Event) → (l : LoadsUpTo tells true old new p q) → WillGive p (event ∷ events)
    → l.events ++ l.last ∷ [] ≡ event ∷ events
loads-whole tells old new p q event events l will =
    let s = run-splits p l.between l.events (event ∷ events) true l.run l.going will in
    last-whole l.between q l.last l.events (event ∷ events) s.rest s.same s.will l.steps (last-is-end l.last l.stops)
    (run-open p l.between l.events true l.run l.going (some-left p event events will))

pub loads-known : {R : Type 0} (tells : R → List Event → Type 0) (multi : Bool) (old new : R) (p q : Parsing) (event : Event) (events : List Event) → multi ≡ true → WillGive p (event ∷ events)
    → LoadsUpTo tells multi old new p q → GetsMore tells old new (event ∷ events)
loads-known tells multi old new p q event events all will loads =
    let P : Bool → Type 0 = λ v. LoadsUpTo tells v old new p q in
    let l = subst P all loads in
    let Q : List Event → Type 0 = λ v. GetsMore tells old new v in
    subst Q (loads-whole tells old new p q event events l will) l.gets

-- on the way only memory can be wanting
pub passing-refused : {R : Type 0} (tells : R → List Event → Type 0) (multi : Bool) (old new : R) (p q : Parsing) (events : List Event) (P : Type 0)
    → Passing tells multi old new p q → WillGive p events → ((rest : List Event) → WillGive q rest → P) → P
passing-refused tells multi old new p q events P a will refused =
    let s = run-splits p q a.events events multi a.run a.going will in
    refused s.rest s.will
