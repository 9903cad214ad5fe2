use Rattle.snap_front.proofs.Prelude.{chars, tree, steps_of}
use Rattle.snap_front.specs.Heads.{remove_head}
use Rattle.snap_front.proofs.OneDocument.{printed-removed, printed-refused}
use Rattle.snap_front.proofs.answering.without_value.Goals as goal

pub returns-in-Ok : goal.returns-in-Ok
returns-in-Ok c = λ m.
    printed-removed (steps_of c.args.path.now) (tree c.args.head) (tree c.remove_value.new.head) (tree c.in-Ok.part) (chars c.args.body.now) c.printed.result m c.in-Ok.ensures.changed c.printed.ensures

pub returns-in-Err : goal.returns-in-Err
returns-in-Err c = λ m.
    printed-refused (remove_head (steps_of c.args.path.now) (tree c.args.head)) (tree c.args.head) (tree c.remove_value.new.head) (chars c.args.body.now) c.in-Err.refusal c.refused.result
    c.in-Err.ensures.changed c.in-Err.ensures.no_head c.refused.ensures
