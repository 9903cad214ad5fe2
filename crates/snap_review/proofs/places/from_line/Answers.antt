use Rattle.snap_review.proofs.Marks.{line_again}
use Rattle.snap_review.proofs.places.from_line.Goals as goal

pub returns : goal.returns
returns c = rw (line_again c.args.at c.args.line _ _ c.requires c.if-line-at.false) c.past_lines-2.ensures
