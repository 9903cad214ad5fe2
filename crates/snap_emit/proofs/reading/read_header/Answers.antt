use Rattle.snap_emit.proofs.Prelude.{chars}
use Rattle.snap_emit.proofs.ReadTexts.{no-header-in, lenient-in, lenient-of-stream, lenient-cause}
use Rattle.snap_emit.proofs.reading.read_header.Goals as goal

pub returns-in-Err-clause-nodes : goal.returns-in-Err-clause-nodes
returns-in-Err-clause-nodes c = λ nodes is. no-header-in nodes c.in-Err.refusal (rw c.in-Err.is at (c.in_ok-refusal.ensures.nodes nodes is))

pub returns-in-Err-clause-cause : goal.returns-in-Err-clause-cause
returns-in-Err-clause-cause c = rw c.in-Err.is at c.in_ok-refusal.ensures.cause

pub returns-in-Ok-clause-nodes : goal.returns-in-Ok-clause-nodes
returns-in-Ok-clause-nodes c = λ nodes is. lenient-in nodes c.in-Ok.loaded c.lenient.result (rw c.in-Ok.is at (c.in_ok-refusal.ensures.nodes nodes is)) c.lenient.ensures

pub returns-in-Ok-clause-stream : goal.returns-in-Ok-clause-stream
returns-in-Ok-clause-stream c = lenient-of-stream c.in-Ok.loaded c.lenient.result (rw c.in-Ok.is at c.in_ok-refusal.ensures.stream) c.lenient.ensures

pub returns-in-Ok-clause-cause : goal.returns-in-Ok-clause-cause
returns-in-Ok-clause-cause c = lenient-cause (chars c.args.text.now) c.in-Ok.loaded c.lenient.result c.lenient.ensures
