use Rattle.snap_str.proofs.Cuts.{suffix_clause}
use Rattle.snap_str.proofs.cut.strip_suffix.Goals as goal

pub returns : goal.returns
returns c = suffix_clause c.args.text.now c.args.suffix.now c.strip_suffix.result c.utf8.text c.utf8.suffix c.strip_suffix.ensures.cases
