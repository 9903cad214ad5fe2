use Rattle.snap_parse_events.proofs.Prelude.{◌≡◌, rules}
use Rattle.snap_scan_tokens.specs.declared.info.ScanError.TheVariants.{OutOfMemory}
use Rattle.std.proofs.lemmas.Result.{err_from_is_err_and}
use Rattle.snap_parse_events.proofs.Failing.{refuses}
use Rattle.snap_parse_events.proofs.parser.Parser.next_forgetting.Goals as goal

pub returns-in_err-event-clause-memory : goal.returns-in_err-event-clause-memory
returns-in_err-event-clause-memory c =
    λ events will.
    let e : c.in_err-event.field-0.0 ≡ OutOfMemory = c.in_err-event.ensures.memory events will in
    search rules

pub returns-in_err-event-clause-fails : goal.returns-in_err-event-clause-fails
returns-in_err-event-clause-fails c =
    let p = err_from_is_err_and c.from_residual.result c.from_residual.ensures.1 in
    rw p.1 (refuses p.0 c.in_err-event.field-0.0 c.args.self.now c.next.new.self p.2 c.in_err-event.ensures.fails)
