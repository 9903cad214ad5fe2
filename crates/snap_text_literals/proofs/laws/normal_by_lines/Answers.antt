use Rattle.snap_text_literals.proofs.Written.{written-inline}
use Rattle.snap_text_literals.proofs.laws.normal_by_lines.Goals as goal

pub returns : goal.returns
returns c = written-inline
