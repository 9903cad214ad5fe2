use Rattle.snap_assert.proofs.LiteralRecords.{added_alone}
use Rattle.std.proofs.lemmas.Result.{err_from_is_err_and}
use Rattle.snap_assert.proofs.LiteralHalting.{line_stopped}
use Rattle.snap_assert.proofs.record.add_line.Goals as goal

pub returns-clause-kept : goal.returns-clause-kept
returns-clause-kept g c = added_alone c.args.path.now _ _ _ c.in_ok-append_line.ensures.added

pub returns-in_err-append_line-clause-halted : goal.returns-in_err-append_line-clause-halted
returns-in_err-append_line-clause-halted g c =
    let told = err_from_is_err_and c.from_residual.result c.from_residual.ensures.1 in
    rw (told.1, told.2) (line_stopped c.args.path.now c.args.line.now c.in_err-append_line.field-0.0 _ _ c.in_err-append_line.ensures.stopped)
