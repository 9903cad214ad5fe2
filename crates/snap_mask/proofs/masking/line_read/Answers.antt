use Rattle.snap_mask.proofs.LinesCut.{return_off, return_none, line_nothing}
use Rattle.snap_mask.proofs.masking.line_read.Goals as goal

pub returns-in-None : goal.returns-in-None
returns-in-None c = rw c.in-Ended.is (line_nothing c.args.line.now c.in-None.ensures.cases)

pub returns-then-last-eq13 : goal.returns-then-last-eq13
returns-then-last-eq13 c = rw c.in-Ended.is (return_off c.args.line.now c.in-Some.front.now c.in-Some.last.now c.in-Some.ensures.cases.0 c.if-last-eq13.true)

pub returns-else-last-eq13 : goal.returns-else-last-eq13
returns-else-last-eq13 c = rw c.in-Ended.is (return_none c.args.line.now c.in-Some.front.now c.in-Some.last.now c.in-Some.ensures.cases.0 c.if-last-eq13.false)
