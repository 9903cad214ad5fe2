use Rattle.snap_assert.proofs.Settling.{removed_alone, gone_alone}
use Rattle.std.proofs.lemmas.Result.{err_from_is_err_and}
use Rattle.snap_assert.proofs.Halting.{removal_stopped}
use Rattle.snap_assert.proofs.settle.approve.Goals as goal

pub returns-clause-kept : goal.returns-clause-kept
returns-clause-kept g c = removed_alone c.args.prepared.now.pending _ _ c.in_ok-remove.ensures.removed

pub returns-in_err-remove-clause-kept : goal.returns-in_err-remove-clause-kept
returns-in_err-remove-clause-kept g c = gone_alone c.args.prepared.now.pending _ _ c.in_err-remove.ensures.stopped

pub returns-in_err-remove-clause-halted : goal.returns-in_err-remove-clause-halted
returns-in_err-remove-clause-halted g c =
    let told = err_from_is_err_and c.from_residual.result c.from_residual.ensures.1 in
    rw (told.1, told.2) (removal_stopped c.args.prepared.now.pending c.in_err-remove.field-0.0 _ _ c.in_err-remove.ensures.error c.in_err-remove.ensures.stopped)
