use Rattle.snap_review.proofs.Puttings.{reads-back}
use Rattle.snap_review.proofs.laws.what_is_put_reads_back.Goals as goal

pub returns : goal.returns
returns c = reads-back
