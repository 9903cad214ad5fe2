use Rattle.snap_emit_values.proofs.Prelude.{◌∙◌, rules, chars}
use Rattle.snap_emit_values.proofs.LineEnds.{core-last, core-more}
use Rattle.snap_emit_values.proofs.block.trim_line_ends.Goals as goal

pub returns-then-last-ne10 : goal.returns-then-last-ne10
returns-then-last-ne10 c =
    core-last (chars c.loop-front.rest.now) (chars c.in-Some.front.now) c.in-Some.last c.in-Some.ensures c.if-last-ne10.true ∙ c.loop-front.invariant.same

pub loop-front-preserved : goal.loop-front-preserved
loop-front-preserved c = record {
  utf8 = search rules;
  same = core-more (chars c.loop-front.rest.now) (chars c.in-Some.front.now) c.in-Some.last c.in-Some.ensures c.if-last-ne10.false ∙ c.loop-front.invariant.same;
}
