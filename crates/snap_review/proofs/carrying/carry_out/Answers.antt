use Rattle.snap_review.proofs.Stopping.{stopped_run}
use Rattle.snap_review.proofs.carrying.carry_out.Goals as goal

pub returns-in-Err-clause-end : goal.returns-in-Err-clause-end
returns-in-Err-clause-end g c = rw c.status_of.ensures (stopped_run _ _ c.in-Err.error _ _ _ c.in-Err.ensures.stopped)
