use Rattle.snap_front.proofs.Prelude.{chars, tree, steps_of}
use Rattle.snap_front.proofs.OneDocument.{printed-set, set-refused}
use Rattle.snap_front.proofs.answering.with_value.Goals as goal

pub returns-in-Ok-None : goal.returns-in-Ok-None
returns-in-Ok-None c = λ m.
    printed-set (steps_of c.args.path.now) (tree c.args.value) (tree c.args.head) (tree c.set_value.new.head) (chars c.args.body.now) c.printed.result m (rw c.in-Ok-None.field-0-is at c.in-Ok-None.ensures.ok) c.printed.ensures

pub returns-in-Ok-Some : goal.returns-in-Ok-Some
returns-in-Ok-Some c = λ m.
    set-refused (steps_of c.args.path.now) (tree c.args.value) (tree c.args.head) (tree c.set_value.new.head) (chars c.args.body.now) c.in-Ok-Some.refusal c.refused.result (rw c.in-Ok-Some.field-0-is at c.in-Ok-Some.ensures.ok) c.refused.ensures
