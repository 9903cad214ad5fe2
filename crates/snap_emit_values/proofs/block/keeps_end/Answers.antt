use Rattle.snap_emit_values.proofs.Prelude.{◌∙◌, ap, not, chars}
use Rattle.snap_emit_values.proofs.LineEnds.{keeps-end, keeps-other}
use Rattle.snap_emit_values.proofs.block.keeps_end.Goals as goal

pub returns-then-last-eq10 : goal.returns-then-last-eq10
returns-then-last-eq10 c =
    ap not c.has_bad_end.ensures ∙ keeps-end (chars c.args.text.now) (chars c.in-Some.front.now) c.in-Some.last c.in-Some.ensures c.if-last-eq10.true

pub returns : goal.returns
returns c =
    ap not c.is_whitespace.ensures ∙ keeps-other (chars c.args.text.now) (chars c.in-Some.front.now) c.in-Some.last c.in-Some.ensures c.if-last-eq10.false
