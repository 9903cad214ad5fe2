use Rattle.snap_str.proofs.Cuts.{last_clause, last_shorter}
use Rattle.snap_str.proofs.cut.rsplit_once.Goals as goal

pub returns-clause-cut : goal.returns-clause-cut
returns-clause-cut c = last_clause c.args.mark c.args.text.now c.rsplit_once.result c.utf8.text c.ranges.mark.0 c.rsplit_once.ensures.cases

pub returns-clause-shorter : goal.returns-clause-shorter
returns-clause-shorter c = last_shorter c.args.mark c.args.text.now c.rsplit_once.result c.utf8.text c.ranges.mark.0 c.rsplit_once.ensures.cases
