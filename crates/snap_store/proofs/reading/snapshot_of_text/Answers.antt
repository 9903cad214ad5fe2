use Rattle.snap_store.proofs.Prelude.{chars}
use Rattle.snap_store.proofs.reading.snapshot_of_text.Goals as goal

pub returns-in-Some-clause-end : goal.returns-in-Some-clause-end
returns-in-Some-clause-end c =
    let split = rw c.in-Some.is at c.in_ok-headed.ensures in
    λ file there. c.headed_snapshot.ensures.end file (chars c.args.text.now) there split
