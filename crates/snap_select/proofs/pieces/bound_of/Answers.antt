use Rattle.snap_select.proofs.PieceFacts.{bound_parsed}
use Rattle.snap_select.proofs.pieces.bound_of.Goals as goal

pub returns : goal.returns
returns c = λ numeral. rw c.ok.ensures.value (bound_parsed c.args.number.now c.parse.result c.utf8.number c.parse.ensures.value.0 numeral)
