use Rattle.snap_front.proofs.Prelude.{chars, tree}
use Rattle.snap_front.proofs.OneDocument.{done-answer, head-map}
use Rattle.snap_front.proofs.answering.answered.Goals as goal

pub returns-in-Ok : goal.returns-in-Ok
returns-in-Ok c = λ wanted is.
    done-answer wanted (chars c.args.text.now) (tree c.in-Ok.head) (chars c.in-Ok.body.now) c.args.request c.done.result is c.in-Ok.ensures
    (c.done.ensures (head-map (chars c.args.text.now) (tree c.in-Ok.head) (chars c.in-Ok.body.now) c.in-Ok.ensures))
