use Rattle.snap_run.proofs.Prelude.{None, inr, sym, ◌∙◌, ap, encode_utf8_all, encodes-chars, words_of}
use Rattle.std.proofs.lemmas.Result.{err_from_is_err_and}
use Rattle.snap_run_requests.specs.RequestOf.{assertion_of}
use Rattle.snap_run.proofs.DocumentEnds.{document_ran, line_fails, no_line, assertion_stops, sink_is_left}
use Rattle.snap_run.proofs.documents.run_assertion.Goals as goal

pub returns-in_err-outcome-clause-err : goal.returns-in_err-outcome-clause-err
returns-in_err-outcome-clause-err g c =
    let told = err_from_is_err_and c.from_residual.result c.from_residual.ensures.1 in
    rw (told.1, told.2) (λ document known reads held.
    assertion_stops (words_of c.args.runner.now) (assertion_of c.args.assertion) c.in_err-outcome.field-0.0 _ _ known _ _ (c.in_err-outcome.ensures.err known held) document reads)

pub returns-in_err-line-clause-err : goal.returns-in_err-line-clause-err
returns-in_err-line-clause-err g c =
    let told = err_from_is_err_and c.from_residual-in_err-line.result c.from_residual-in_err-line.ensures.1 in
    rw (told.1, told.2) (λ document known reads held.
    no_line (words_of c.args.runner.now) (assertion_of c.args.assertion) c.in_ok-outcome.outcome _ _ _ known _ _ (c.in_ok-outcome.ensures.ok known held) document reads)

pub returns-clause-ok : goal.returns-clause-ok
returns-clause-ok g c = λ document known reads held.
    document_ran (words_of c.args.runner.now) (assertion_of c.args.assertion) c.in_ok-outcome.outcome c.of_outcome.result c.in_ok-line.line c.as_bytes.result.now _ _ known _ _ _ (c.in_ok-outcome.ensures.ok known held) c.in_ok-line.ensures
    (c.as_bytes.ensures.value ∙ sym (encodes-chars c.as_str.result.now c.as_str.utf8) ∙ ap encode_utf8_all c.as_str.ensures) c.in_ok-write_all.ensures.all c.of_outcome.ensures.fails c.of_outcome.ensures.passed document reads

pub returns-in_err-write_all-clause-err : goal.returns-in_err-write_all-clause-err
returns-in_err-write_all-clause-err g c =
    let told = err_from_is_err_and c.from_residual-in_err-write_all.result c.from_residual-in_err-write_all.ensures.1 in
    rw (told.1, told.2) (λ document known reads held. inr
    (line_fails (words_of c.args.runner.now) (assertion_of c.args.assertion) c.in_ok-outcome.outcome c.in_ok-line.line c.as_bytes.result.now _ _ known _ _ _ (c.in_ok-outcome.ensures.ok known held) c.in_ok-line.ensures
    (c.as_bytes.ensures.value ∙ sym (encodes-chars c.as_str.result.now c.as_str.utf8) ∙ ap encode_utf8_all c.as_str.ensures) c.in_err-write_all.ensures.part document reads))

pub returns-in_err-outcome-clause-sink_count : goal.returns-in_err-outcome-clause-sink_count
returns-in_err-outcome-clause-sink_count g c =
    let told = err_from_is_err_and c.from_residual.result c.from_residual.ensures.1 in
    rw (told.1, told.2)
    (sink_is_left (words_of c.args.runner.now) c.in_err-outcome.field-0.0 (assertion_of c.args.assertion) _ _ _ _ (g.K.Sink.faults c.args.sink.now)
    (c.in_err-outcome.ensures.err None (λ m none. absurd (cc none))))
