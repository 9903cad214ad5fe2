use Rattle.snap_explain_unused.proofs.Sets.{kept_one}
use Rattle.snap_explain_unused.proofs.asking.keep_path.Goals as goal

pub returns : goal.returns
returns c = kept_one _ c.args.preview.now.path _ _ c.in_ok-path.ensures c.in_ok-add.ensures
