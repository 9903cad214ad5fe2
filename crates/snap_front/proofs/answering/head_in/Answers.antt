use Rattle.snap_front.proofs.Prelude.{chars}
use Rattle.std.specs.Prelude.{Err}
use Rattle.snap_front.specs.Front.{IsHeadIn}
use Rattle.snap_front.proofs.OneDocument.{refused-head, told-head}
use Rattle.snap_front.proofs.answering.head_in.Goals as goal

pub returns-in-Err : goal.returns-in-Err
returns-in-Err c =
    let comes = refused-head (chars c.args.text.now) (chars c.in-Some.header.now) (chars c.in-Some.body.now) c.in-Err.refusal c.refused-in-Err.result c.in-Some.ensures (rw c.in-Err.is at c.in_ok-head.ensures) c.refused-in-Err.ensures in
    told-head (λ e. IsHeadIn (chars c.args.text.now) (Err e)) (chars c.args.text.now) c.in-Err.refusal c.refused-in-Err.result comes c.refused-in-Err.ensures (λ reply h. h)
