use Rattle.snap_path.proofs.CutTexts.{cut_clause, shorter_clause}
use Rattle.snap_path.proofs.components.cut_at_last.Goals as goal

pub returns-clause-cut : goal.returns-clause-cut
returns-clause-cut c = cut_clause c.args.mark.now c.args.text.now c.rsplit_once.result c.utf8.text c.requires.ascii c.requires.mark c.rsplit_once.ensures.cases

pub returns-clause-shorter : goal.returns-clause-shorter
returns-clause-shorter c = shorter_clause c.args.mark.now c.args.text.now c.rsplit_once.result c.utf8.text c.requires.ascii c.requires.mark c.rsplit_once.ensures.cases
