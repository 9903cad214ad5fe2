use Rattle.snap_str.proofs.Cuts.{prefix_clause}
use Rattle.snap_str.proofs.cut.strip_prefix.Goals as goal

pub returns : goal.returns
returns c = prefix_clause c.args.text.now c.args.prefix.now c.strip_prefix.result c.utf8.text c.utf8.prefix c.strip_prefix.ensures.cases
