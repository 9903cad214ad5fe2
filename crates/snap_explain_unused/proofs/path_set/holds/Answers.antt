use Rattle.snap_explain_unused.proofs.Prelude.{◌∙◌}
use Rattle.snap_explain_unused.proofs.Sets.{among_keys}
use Rattle.snap_explain_unused.proofs.path_set.holds.Goals as goal

pub returns : goal.returns
returns c = c.contains.ensures ∙ among_keys c.args.path.now c.args.paths.now.keys
