use Rattle.snap_str.proofs.Cuts.{first_clause, first_shorter}
use Rattle.snap_str.proofs.cut.split_once.Goals as goal

pub returns-clause-cut : goal.returns-clause-cut
returns-clause-cut c = first_clause c.args.mark c.args.text.now c.split_once.result c.utf8.text c.ranges.mark.0 c.split_once.ensures.cases

pub returns-clause-shorter : goal.returns-clause-shorter
returns-clause-shorter c = first_shorter c.args.mark c.args.text.now c.split_once.result c.utf8.text c.ranges.mark.0 c.split_once.ensures.cases
