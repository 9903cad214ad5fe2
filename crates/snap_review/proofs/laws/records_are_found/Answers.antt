use Rattle.snap_review.proofs.RecordPaths.{records_below}
use Rattle.snap_review.proofs.laws.records_are_found.Goals as goal

pub returns : goal.returns
returns c = records_below
