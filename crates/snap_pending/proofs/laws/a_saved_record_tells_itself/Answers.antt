use Rattle.snap_pending.proofs.RecordBack.{record-back}
use Rattle.snap_pending.proofs.laws.a_saved_record_tells_itself.Goals as goal

pub returns : goal.returns
returns c = record-back
