use Rattle.snap_assert.proofs.Prelude.{◌∙◌, ap, sym, Some}
use Rattle.std.proofs.lemmas.Result.{err_from_is_err_and}
use Rattle.snap_assert.proofs.Calls.{among_call, call_cause}
use Rattle.snap_assert.proofs.Keeping.{kept_removed_each, kept_one_more}
use Rattle.snap_assert.proofs.Removals.{one_more, all_gone}
use Rattle.snap_assert.proofs.Halting.{removals_stopped}
use Rattle.snap_assert.proofs.removal.remove_files.Goals as goal

pub loop-path-preserved : goal.loop-path-preserved
loop-path-preserved g c = record {
  gone = λ m e. c.in_ok-remove.ensures.removed _ (c.loop-path.invariant.gone m e)
      ∙ ap Some (sym (one_more c.args.paths.now c.loop-path.path-index c.path-item.result m c.loop-path-test.true c.path-item.is));
  count = c.in_ok-remove.ensures.cause ∙ c.loop-path.invariant.count;
}

pub returns-in_err-remove-clause-kept : goal.returns-in_err-remove-clause-kept
returns-in_err-remove-clause-kept g c = λ m e.
    kept_one_more c.args.paths.now c.loop-path.path-index c.path-item.result m _ _ c.loop-path-test.true c.path-item.is (c.loop-path.invariant.gone m e) c.in_err-remove.ensures.stopped

pub returns-in_err-remove-clause-named : goal.returns-in_err-remove-clause-named
returns-in_err-remove-clause-named g c =
    let told = err_from_is_err_and c.from_residual.result c.from_residual.ensures.1 in
    rw (told.1, told.2)
    (among_call c.args.paths.now c.loop-path.path-index c.path-item.result c.in_err-remove.field-0.0 c.loop-path-test.true c.path-item.is c.in_err-remove.ensures.error)

pub returns-in_err-remove-clause-cause : goal.returns-in_err-remove-clause-cause
returns-in_err-remove-clause-cause g c =
    let told = err_from_is_err_and c.from_residual.result c.from_residual.ensures.1 in
    rw (told.1, told.2)
    (call_cause _ _ _ c.path-item.result c.in_err-remove.field-0.0 c.loop-path.invariant.count c.in_err-remove.ensures.error c.in_err-remove.ensures.cause)

pub returns-clause-kept : goal.returns-clause-kept
returns-clause-kept g c = λ m e. kept_removed_each c.args.paths.now _ m _ (c.loop-path.invariant.gone m e)

pub returns-clause-ok : goal.returns-clause-ok
returns-clause-ok g c = λ m e. c.loop-path.invariant.gone m e ∙ ap Some (all_gone c.args.paths.now _ m c.loop-path-test.false)

pub returns-in_err-remove-clause-halted : goal.returns-in_err-remove-clause-halted
returns-in_err-remove-clause-halted g c =
    let told = err_from_is_err_and c.from_residual.result c.from_residual.ensures.1 in
    rw (told.1, told.2) (removals_stopped c.args.paths.now c.loop-path.path-index c.path-item.result c.in_err-remove.field-0.0 _ _ _ c.loop-path-test.true c.path-item.is
    c.loop-path.invariant.gone c.in_err-remove.ensures.error c.in_err-remove.ensures.stopped)
