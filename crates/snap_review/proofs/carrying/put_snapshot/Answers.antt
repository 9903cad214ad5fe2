use Rattle.snap_review.proofs.carrying.put_snapshot.Goals as goal

pub returns-in-Err-clause-stopped : goal.returns-in-Err-clause-stopped
returns-in-Err-clause-stopped g c = record { error_is = c.in-Err.ensures.error; stands = c.in-Err.ensures.stopped }
