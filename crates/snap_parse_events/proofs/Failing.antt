-- Where loading ends early.
use Rattle.snap_parse_events.proofs.Prelude.{◌≡◌, List, ◌++◌, Bool, None, Some, inl, inr, ScanError, Event, Parsing, LoadError, load_error, Steps, Passing, LoadsPart, Fails, Refuses, Breaks, Leaves}
use Rattle.snap_scan_tokens.specs.declared.info.ScanError.TheVariants as c
use Rattle.snap_parse_events.specs.declared.error.LoadError.TheVariants as l

-- the parser's own error, told as one of loading
pub refuses : (e : LoadError) (why : ScanError) (p q : Parsing) → e ≡ load_error why → Fails why p q → Refuses e p q
refuses e why p q is fails = record { why = why; told = is; fails = fails }

pub loses : (e : LoadError) (event : Event) (p q : Parsing) → e ≡ l.OutOfMemory → Steps event p q → q.error ≡ None → Breaks e p q
loses e event p q is steps well = inr (record { memory = is; event = event; steps = steps; well = well })

-- after the events that were handed on
pub passing-stopped : {R : Type 0} (tells : R → List Event → Type 0) (multi : Bool) (e : LoadError) (old mid new : R) (p q r : Parsing) → Passing tells multi old mid p q
    → ((events : List Event) → tells mid events → tells new events) → Breaks e q r → LoadsPart tells multi e old new p r
passing-stopped tells multi e old mid new p q r a stays breaks = record {
  to = q;
  part = record { events = a.events; going = a.going; run = a.run; gets = λ before h. stays (before ++ a.events) (a.gets before h) };
  breaks = breaks;
}

refused-leaves : (e : LoadError) (why : ScanError) (p q r : Parsing) → e ≡ load_error why → r.error ≡ Some why → Leaves e p r
refused-leaves (l.Scan x) (c.Syntax mark info) p q r is kept = let same : x ≡ c.Syntax mark info = cc in cc
refused-leaves (l.Scan x) c.OutOfMemory p q r is kept = absurd (cc)
refused-leaves l.InsideDocument (c.Syntax mark info) p q r is kept = absurd (cc)
refused-leaves l.InsideDocument c.OutOfMemory p q r is kept = absurd (cc)
refused-leaves l.OutOfMemory (c.Syntax mark info) p q r is kept = absurd (cc)
refused-leaves l.OutOfMemory c.OutOfMemory p q r is kept = inr kept

lost-leaves : (e : LoadError) (p r : Parsing) → e ≡ l.OutOfMemory → r.error ≡ None → Leaves e p r
lost-leaves (l.Scan x) p r is well = absurd (cc)
lost-leaves l.InsideDocument p r is well = absurd (cc)
lost-leaves l.OutOfMemory p r is well = inl well

-- the error that a parser has after that of loading
pub breaks-leaves : (e : LoadError) (p q r : Parsing) → Breaks e q r → Leaves e p r
breaks-leaves e p q r (inl b) = refused-leaves e b.why p q r b.told b.fails.kept
breaks-leaves e p q r (inr b) = lost-leaves e p r b.memory b.well
