use Rattle.snap_pending.proofs.LinesBack.{records-back, file-kept}
use Rattle.snap_pending.proofs.laws.saved_records_are_loaded_back.Goals as goal

pub returns-clause-loaded : goal.returns-clause-loaded
returns-clause-loaded c = records-back

pub returns-clause-accepted : goal.returns-clause-accepted
returns-clause-accepted c = file-kept
