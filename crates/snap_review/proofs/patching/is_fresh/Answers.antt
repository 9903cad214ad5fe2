use Rattle.snap_review.proofs.Puttings.{fresh_end}
use Rattle.snap_review.proofs.patching.is_fresh.Goals as goal

pub returns-in-Ok : goal.returns-in-Ok
returns-in-Ok c = rw c.in-Some.is (fresh_end c.in-Ok.same _ _ _ c.in-Ok.ensures)
