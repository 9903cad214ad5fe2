use Rattle.snap_run_requests.proofs.Cutting.{all_documents}
use Rattle.snap_run_requests.proofs.laws.cut_loses_nothing.Goals as goal

pub returns : goal.returns
returns c = all_documents
