use Rattle.snap_text_literals.proofs.Prelude.{sym, ◌∙◌, arith, chars-nil}
use Rattle.snap_text_literals.proofs.LineLeads.{from_byte-inside}
use Rattle.snap_text_literals.proofs.lines.from_byte.Goals as goal

pub returns-then-left-width : goal.returns-then-left-width
returns-then-left-width c =
    chars-nil
    ∙ sym (from_byte-inside c.loop-c.left _ _ _ c.in-Some.ensures c.if-left-eq0.false
    (omega (arith, c.len_utf8-width.ensures.value, c.if-left-width.true)))
    ∙ c.loop-c.invariant.same
