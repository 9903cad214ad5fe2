use Rattle.snap_review.proofs.Prelude.{◌∙◌, ap, sym, Some}
use Rattle.snap_io.proofs.Standing.{one_gone, all_gone}
use Rattle.snap_review.proofs.Stopping.{stops_removing}
use Rattle.snap_review.proofs.carrying.remove_each.Goals as goal

pub loop-path-preserved : goal.loop-path-preserved
loop-path-preserved g c = record {
  gone = λ m e. c.in-Ok.ensures.removed _ (c.loop-path.invariant.gone m e) ∙ ap Some (sym (one_gone c.args.paths.now c.loop-path.path-index c.path-item.result m c.loop-path-test.true c.path-item.is));
  count = c.in-Ok.ensures.cause ∙ c.loop-path.invariant.count;
}

pub returns-in-Err-clause-stopped : goal.returns-in-Err-clause-stopped
returns-in-Err-clause-stopped g c =
    stops_removing c.args.paths.now c.loop-path.path-index c.path-item.result c.in-Err.error _ _ _ c.loop-path-test.true c.path-item.is c.loop-path.invariant.gone c.in-Err.ensures.error c.in-Err.ensures.stopped

pub returns-clause-ok : goal.returns-clause-ok
returns-clause-ok g c = λ m e. c.loop-path.invariant.gone m e ∙ ap Some (all_gone c.args.paths.now _ m c.loop-path-test.false)
