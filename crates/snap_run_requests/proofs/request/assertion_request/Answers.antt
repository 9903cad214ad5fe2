use Rattle.snap_run_requests.proofs.Prelude.{pair_trees}
use Rattle.snap_run_requests.proofs.PairsFaults.{assertion_end}
use Rattle.snap_run_requests.proofs.request.assertion_request.Goals as goal

pub returns-in-Err : goal.returns-in-Err
returns-in-Err c = assertion_end (pair_trees c.args.pairs.items) c.in-Err.error c.requires c.in-Err.ensures
