use Rattle.snap_parse_events.proofs.Prelude.{◌≡◌, Option, refl, sym, ap, ◌∙◌, rules, OutOfMemory, Parsing, ScanError, load_error}
use Rattle.std.proofs.lemmas.Result.{err_from_is_err_and}
use Rattle.snap_parse_events.proofs.Failing.{passing-stopped, breaks-leaves}
use Rattle.snap_parse_events.proofs.Following.{loads-known, passing-refused}
use Rattle.snap_parse_events.proofs.Running.{passing-start, passing-more, passing-stop, loads-stream}
use Rattle.snap_parse_events.proofs.parser.Parser.load.Goals as goal

pub events-init : goal.events-init
events-init g c = record { passing = passing-start g.R.MarkedEventReceiver.told c.args.multi c.args.receiver.now c.args.self.now; source = refl; failed = λ why failed. (refl, refl) }

pub returns-then-stops-clause-stream : goal.returns-then-stops-clause-stream
returns-then-stops-clause-stream g c =
    λ all at. loads-stream g.R.MarkedEventReceiver.told c.args.multi c.args.receiver.now c.hand_on.new.receiver c.args.self.now c.hand_on.new.self all at
    (passing-stop g.R.MarkedEventReceiver.told c.args.multi c.args.receiver.now c.events.receiver c.hand_on.new.receiver c.args.self.now c.events.self c.hand_on.new.self
    c.in_ok-passed.passed c.events.invariant.passing c.in_ok-passed.ensures.ok (sym c.stops.ensures ∙ c.if-stops.true))

pub returns-then-stops-clause-gives : goal.returns-then-stops-clause-gives
returns-then-stops-clause-gives g c =
    λ event events all will. loads-known g.R.MarkedEventReceiver.told c.args.multi c.args.receiver.now c.hand_on.new.receiver c.args.self.now c.hand_on.new.self event events all will
    (passing-stop g.R.MarkedEventReceiver.told c.args.multi c.args.receiver.now c.events.receiver c.hand_on.new.receiver c.args.self.now c.events.self c.hand_on.new.self
    c.in_ok-passed.passed c.events.invariant.passing c.in_ok-passed.ensures.ok (sym c.stops.ensures ∙ c.if-stops.true))

pub returns-in_err-passed-clause-memory : goal.returns-in_err-passed-clause-memory
returns-in_err-passed-clause-memory g c =
    λ events _ will.
    let e : c.in_err-passed.field-0.0 ≡ OutOfMemory =
    passing-refused g.R.MarkedEventReceiver.told c.args.multi c.args.receiver.now c.events.receiver c.args.self.now c.events.self events
    (c.in_err-passed.field-0.0 ≡ OutOfMemory) c.events.invariant.passing will (λ rest left. c.in_err-passed.ensures.memory rest left) in
    search rules

pub events-preserved : goal.events-preserved
events-preserved g c = record {
  passing =
      passing-more g.R.MarkedEventReceiver.told c.args.multi c.args.receiver.now c.events.receiver c.hand_on.new.receiver c.args.self.now c.events.self c.hand_on.new.self
      c.in_ok-passed.passed c.events.invariant.passing c.in_ok-passed.ensures.ok (sym c.stops.ensures ∙ c.if-stops.false);
  source = c.in_ok-passed.ensures.source ∙ c.events.invariant.source;
  failed = λ why failed.
      let f : Parsing → Option ScanError = λ v. v.error in
      let again = c.in_ok-passed.ensures.sticky why (ap f (c.events.invariant.failed why failed).0 ∙ failed) in
      absurd (let same = again.0 in cc);
}

pub returns-then-stops-clause-sticky : goal.returns-then-stops-clause-sticky
returns-then-stops-clause-sticky g c =
    λ why outside failed.
    let f : Parsing → Option ScanError = λ v. v.error in
    let again = c.in_ok-passed.ensures.sticky why (ap f (c.events.invariant.failed why failed).0 ∙ failed) in
    absurd (let same = again.0 in cc)

pub returns-in_err-passed-clause-err : goal.returns-in_err-passed-clause-err
returns-in_err-passed-clause-err g c =
    λ outside.
    let p = err_from_is_err_and c.from_residual.result c.from_residual.ensures.1 in
    rw (p.1, p.2)
    (passing-stopped g.R.MarkedEventReceiver.told c.args.multi c.in_err-passed.field-0.0 c.args.receiver.now c.events.receiver c.hand_on.new.receiver c.args.self.now c.events.self c.hand_on.new.self
    c.events.invariant.passing (λ events tells. c.in_err-passed.ensures.err events tells) c.in_err-passed.ensures.breaks)

pub returns-in_err-passed-clause-leaves : goal.returns-in_err-passed-clause-leaves
returns-in_err-passed-clause-leaves g c =
    let p = err_from_is_err_and c.from_residual.result c.from_residual.ensures.1 in
    rw (p.1, p.2) (breaks-leaves c.in_err-passed.field-0.0 c.args.self.now c.events.self c.hand_on.new.self c.in_err-passed.ensures.breaks)

pub returns-in_err-passed-clause-sticky : goal.returns-in_err-passed-clause-sticky
returns-in_err-passed-clause-sticky g c =
    λ why outside failed.
    let p = err_from_is_err_and c.from_residual.result c.from_residual.ensures.1 in
    let f : Parsing → Option ScanError = λ v. v.error in
    let here = c.events.invariant.failed why failed in
    let again = c.in_err-passed.ensures.sticky why (ap f here.0 ∙ failed) in
    let told : c.in_err-passed.field-0.0 ≡ load_error why = (let same = again.0 in cc) in
    rw (p.1, p.2) (cc, again.1 ∙ here.0, again.2 ∙ here.1)
