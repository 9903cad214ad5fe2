-- Runs of a parser, and what is loaded on them.
use Rattle.snap_parse_events.proofs.Prelude.{◌≡◌, List, [], ◌∷◌, ◌++◌, Option, None, Some, Bool, true, false, not, ◌&&◌, refl, option_and_then, sym, ◌∙◌, ap, subst, append_assoc, append-nil, list_all, Event, Meaning, ahead, ended, after, after_all, is_stream_end, Passed, Parsing, meaning, forgetting, Steps, Run, run_start, run_more, passed_of, stops, goes, GetsMore, HandsOn, Passing, LoadsUpTo, TellsStream, and_parts}
use Rattle.snap_parse_events.specs.declared.event.Event.TheVariants as e
use Rattle.snap_parse_events.specs.Streams.{HasNoEnd, IsStream}
use Rattle.snap_parse_events.specs.declared.load.Passed.TheVariants as w
use Rattle.snap_parse_events.proofs.Endings.{event-behind, end-ends, last-is-end, going-no-end}

pub join : (a b : Bool) → a ≡ true → b ≡ true → a && b ≡ true
join true b h k = k
join false b h k = absurd (cc)

-- a test of each element of a longer list
all-more : (f : Event → Bool) (xs : List Event) (x : Event) → list_all f xs ≡ true → f x ≡ true → list_all f (xs ++ x ∷ []) ≡ true
all-more f [] x h e = join (f x) true e refl
all-more f (y ∷ ys) x h e = let k = and_parts (f y) (list_all f ys) h in join (f y) (list_all f (ys ++ x ∷ [])) k.0 (all-more f ys x k.1 e)

-- what is forgotten changes no meaning
meaning-kept : (event : Event) (p : Parsing) → meaning (forgetting event p) ≡ meaning p
meaning-kept e.StreamStart p = refl
meaning-kept e.StreamEnd p = refl
meaning-kept e.DocumentStart p = refl
meaning-kept e.DocumentEnd p = refl
meaning-kept (e.Alias id) p = refl
meaning-kept (e.Scalar text style id tag) p = refl
meaning-kept (e.SequenceStart id) p = refl
meaning-kept e.SequenceEnd p = refl
meaning-kept (e.MappingStart id) p = refl
meaning-kept e.MappingEnd p = refl

-- the event of a step may come
pub step-allowed : (event : Event) (p q : Parsing) → Steps event p q → after event (meaning p) ≡ Some (meaning q)
step-allowed event p q s =
    let f : Parsing → Meaning = λ v. meaning v in
    let g : Meaning → Option Meaning = λ v. Some v in
    s.next.allowed ∙ ap g (sym (ap f s.behind ∙ meaning-kept event s.between))

-- a step after the stream's end gives it again
pub step-behind : (event : Event) (p q : Parsing) → Steps event p q → meaning p ≡ ended → passed_of event ≡ w.StreamEnd
step-behind event p q s at =
    let f : Meaning → Option Meaning = λ v. after event v in
    event-behind event (meaning q) (ap f (sym at) ∙ step-allowed event p q s)

pub passing-start : {R : Type 0} (tells : R → List Event → Type 0) (multi : Bool) (x : R) (p : Parsing) → Passing tells multi x x p p
passing-start tells multi x p = record { events = []; going = refl; run = run_start p; gets = λ before h. let P : List Event → Type 0 = λ k. tells x k in subst P (sym (append-nil before)) h }

-- one event more
gets-more : {R : Type 0} (tells : R → List Event → Type 0) (old mid new : R) (events : List Event) (event : Event)
    → GetsMore tells old mid events → GetsMore tells mid new (event ∷ []) → GetsMore tells old new (events ++ event ∷ [])
gets-more tells old mid new events event a b =
    λ before h. let P : List Event → Type 0 = λ k. tells new k in subst P (append_assoc before events (event ∷ [])) (b (before ++ events) (a before h))

stops-event : (multi : Bool) (kind : Passed) (event : Event) (b : Bool) → kind ≡ passed_of event → stops multi kind ≡ b → goes multi event ≡ not b
stops-event multi kind event b same s =
    let f : Passed → Bool = λ v. stops multi v in
    ap not (ap f (sym same) ∙ s)

pub passing-more : {R : Type 0} (tells : R → List Event → Type 0) (multi : Bool) (old mid new : R) (p q r : Parsing) (kind : Passed)
    → Passing tells multi old mid p q → HandsOn tells mid new q r kind → stops multi kind ≡ false → Passing tells multi old new p r
passing-more tells multi old mid new p q r kind a b s = record {
  events = a.events ++ b.event ∷ [];
  going = all-more (goes multi) a.events b.event a.going (stops-event multi kind b.event false b.passed s);
  run = run_more p q r a.events b.event a.run b.steps;
  gets = gets-more tells old mid new a.events b.event a.gets b.gets;
}

pub passing-stop : {R : Type 0} (tells : R → List Event → Type 0) (multi : Bool) (old mid new : R) (p q r : Parsing) (kind : Passed)
    → Passing tells multi old mid p q → HandsOn tells mid new q r kind → stops multi kind ≡ true → LoadsUpTo tells multi old new p r
passing-stop tells multi old mid new p q r kind a b s = record {
  events = a.events;
  last = b.event;
  going = a.going;
  stops = stops-event multi kind b.event true b.passed s;
  between = q;
  run = a.run;
  steps = b.steps;
  gets = gets-more tells old mid new a.events b.event a.gets b.gets;
}

chain-step : (es : List Event) (event : Event) (m n : Meaning) (o : Option Meaning) → ((l : Meaning) → after_all es l ≡ Some m → after_all (es ++ event ∷ []) l ≡ Some n)
    → option_and_then (after_all es) o ≡ Some m → option_and_then (after_all (es ++ event ∷ [])) o ≡ Some n
chain-step es event m n None f h = absurd (cc)
chain-step es event m n (Some l) f h = f l h

-- one event more
chain-more : (es : List Event) (event : Event) (l m n : Meaning) → after_all es l ≡ Some m → after event m ≡ Some n → after_all (es ++ event ∷ []) l ≡ Some n
chain-more [] event l m n h k =
    let f : Option Meaning → Option Meaning = λ v. option_and_then (after_all []) v in
    let at : l ≡ m = cc in
    let f2 : Meaning → Option Meaning = λ v. after event v in
    ap f (ap f2 at ∙ k)
chain-more (x ∷ es) event l m n h k = chain-step es event m n (after x l) (λ q hq. chain-more es event q m n hq k) h

-- the events of a run may come
run-allowed : (p q : Parsing) (es : List Event) → Run p es q → after_all es (meaning p) ≡ Some (meaning q)
run-allowed p _ _ (run_start _) = refl
run-allowed p _ _ (run_more _ q r es event run steps) = chain-more es event (meaning p) (meaning q) (meaning r) (run-allowed p q es run) (step-allowed event q r steps)

no-ends : (es : List Event) → list_all (goes true) es ≡ true → HasNoEnd es
no-ends [] h = refl
no-ends (x ∷ es) h =
    let k = and_parts (goes true x) (list_all (goes true) es) h in
    join (not (is_stream_end x)) (list_all (λ event. not (is_stream_end event)) es) (going-no-end x k.0) (no-ends es k.1)

-- events up to the stream's end, which may come from its start
whole : (es : List Event) (last : Event) (n : Meaning) → last ≡ e.StreamEnd → list_all (goes true) es ≡ true → n ≡ ended → after_all (es ++ last ∷ []) ahead ≡ Some n → IsStream (es ++ last ∷ [])
whole es last n is go end chain = record {
  front = es;
  split = (let f : Event → List Event = λ v. es ++ v ∷ [] in ap f is);
  first = no-ends es go;
  allowed = (let f : Meaning → Option Meaning = λ v. Some v in chain ∙ ap f end);
}

-- what is loaded of a whole stream
pub loads-stream : {R : Type 0} (tells : R → List Event → Type 0) (multi : Bool) (old new : R) (p q : Parsing) → multi ≡ true → meaning p ≡ ahead → LoadsUpTo tells multi old new p q → TellsStream tells old new
loads-stream tells multi old new p q all at l =
    let gone : Bool → Type 0 = λ v. list_all (goes v) l.events ≡ true in
    let done : Bool → Type 0 = λ v. goes v l.last ≡ false in
    let is = last-is-end l.last (subst done all l.stops) in
    let step = step-allowed l.last l.between q l.steps in
    let f : Event → Option Meaning = λ v. after v (meaning l.between) in
    let g : Meaning → Option Meaning = λ v. after_all (l.events ++ l.last ∷ []) v in
    record {
      events = l.events ++ l.last ∷ [];
      stream =
          whole l.events l.last (meaning q) is (subst gone all l.going) (end-ends (meaning l.between) (meaning q) (ap f (sym is) ∙ step))
          (ap g (sym at) ∙ chain-more l.events l.last (meaning p) (meaning l.between) (meaning q) (run-allowed p l.between l.events l.run) step);
      gets = l.gets;
    }
