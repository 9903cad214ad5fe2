use Rattle.snap_run_requests.proofs.Prelude.{subst, pair_trees, IsBlockFault}
use Rattle.snap_run_requests.proofs.PairsFaults.{block_fault}
use Rattle.snap_run_requests.proofs.request.block_request.Goals as goal

pub returns-in-Err : goal.returns-in-Err
returns-in-Err c =
    block_fault (pair_trees c.args.pairs.items) c.in-Err.why c.requires
    (subst (λ qs. IsBlockFault (pair_trees qs) c.in-Err.why) c.as_slice.ensures.value c.in-Err.ensures)
