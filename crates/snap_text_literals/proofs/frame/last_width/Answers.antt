use Rattle.snap_text_literals.proofs.Frames.{last_width-is}
use Rattle.snap_text_literals.proofs.frame.last_width.Goals as goal

pub returns : goal.returns
returns c = last_width-is c.args.text.now c.last_part.result.now c.last_part.utf8 c.last_part.ensures
