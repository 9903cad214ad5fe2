use Rattle.snap_front.proofs.Prelude.{chars, tree}
use Rattle.std.proofs.lemmas.Result.{IfOk-weaker}
use Rattle.snap_front.specs.Stored.{docs_of}
use Rattle.snap_front.proofs.Putting.{put-done, put-refused}
use Rattle.snap_front.proofs.store.FrontStore.put.Goals as goal

pub returns-in-Ok-clause-comes : goal.returns-in-Ok-clause-comes
returns-in-Ok-clause-comes c =
    let read = rw c.in-Ok.is at c.in_ok-head.ensures in
    IfOk-weaker c.keep.result _ _ (λ reply h.
    put-done (docs_of c.args.self.now) _ c.args.name.now (chars c.args.text.now) (chars c.in-Some.header.now) (chars c.in-Some.body.now) (tree c.in-Ok.head) _ read.0 c.in-Some.ensures h.0 read.1 read.2 h.1) c.keep.ensures.kept

pub returns-in-Err-clause-comes : goal.returns-in-Err-clause-comes
returns-in-Err-clause-comes c =
    put-refused (docs_of c.args.self.now) c.args.name.now (chars c.args.text.now) (chars c.in-Some.header.now) (chars c.in-Some.body.now) c.in-Err.refusal _ c.in-Some.ensures c.reply.ensures (rw c.in-Err.is at c.in_ok-head.ensures)
