use Rattle.snap_text_literals.proofs.Frames.{cut_clause}
use Rattle.snap_text_literals.proofs.frame.cut_at_byte.Goals as goal

pub returns : goal.returns
returns c =
    let e = c.split_at_checked.ensures in
    cut_clause c.args.byte c.args.line.now c.split_at_checked.result c.utf8.line e.variant e.front e.back e.front_len
