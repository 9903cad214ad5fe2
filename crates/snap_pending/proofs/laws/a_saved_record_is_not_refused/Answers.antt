use Rattle.snap_pending.proofs.RecordKept.{never-refused}
use Rattle.snap_pending.proofs.laws.a_saved_record_is_not_refused.Goals as goal

pub returns : goal.returns
returns c = never-refused
