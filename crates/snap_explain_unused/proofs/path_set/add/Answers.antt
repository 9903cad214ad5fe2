use Rattle.snap_explain_unused.proofs.Sets.{added}
use Rattle.snap_explain_unused.proofs.path_set.add.Goals as goal

pub returns : goal.returns
returns c = added _ _ c.args.path c.in_ok-insert.ensures.updates.0
