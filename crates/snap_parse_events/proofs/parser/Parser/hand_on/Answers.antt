use Rattle.snap_parse_events.proofs.Prelude.{◌≡◌, refl, rules, OutOfMemory, load_error}
use Rattle.std.proofs.lemmas.Result.{err_from_is_err_and}
use Rattle.snap_parse_events.proofs.parser.Parser.hand_on.Goals as goal

pub returns-in_err-event-clause-memory : goal.returns-in_err-event-clause-memory
returns-in_err-event-clause-memory g c =
    λ events will.
    let e : c.in_err-event.field-0.0 ≡ OutOfMemory = c.in_err-event.ensures.memory events will in
    search rules

pub returns-in_err-event-clause-sticky : goal.returns-in_err-event-clause-sticky
returns-in_err-event-clause-sticky g c =
    λ why failed.
    let p = err_from_is_err_and c.from_residual.result c.from_residual.ensures.1 in
    let again = c.in_err-event.ensures.sticky why failed in
    let told : c.in_err-event.field-0.0 ≡ load_error why = (let same = again.0 in cc) in
    rw (p.1, p.2) (cc, again.1, refl)

pub returns-in_err-on_event-clause-sticky : goal.returns-in_err-on_event-clause-sticky
returns-in_err-on_event-clause-sticky g c = λ why failed. absurd (let same = (c.in_ok-event.ensures.sticky why failed).0 in cc)

pub returns-clause-sticky : goal.returns-clause-sticky
returns-clause-sticky g c = λ why failed. absurd (let same = (c.in_ok-event.ensures.sticky why failed).0 in cc)
