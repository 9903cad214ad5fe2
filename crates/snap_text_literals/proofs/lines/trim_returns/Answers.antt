use Rattle.snap_text_literals.proofs.Prelude.{◌∙◌, sym, rules, chars}
use Rattle.snap_text_literals.proofs.Returns.{returns-more, returns-none}
use Rattle.snap_text_literals.proofs.lines.trim_returns.Goals as goal

pub returns-then-last-ne13 : goal.returns-then-last-ne13
returns-then-last-ne13 c =
    sym (returns-none (chars c.loop-front.rest.now) (chars c.in-Some.front.now) c.in-Some.last c.in-Some.ensures c.if-last-ne13.true) ∙ c.loop-front.invariant.same

pub loop-front-preserved : goal.loop-front-preserved
loop-front-preserved c = record {
  utf8 = search rules;
  same = returns-more (chars c.loop-front.rest.now) (chars c.in-Some.front.now) c.in-Some.last c.in-Some.ensures c.if-last-ne13.false ∙ c.loop-front.invariant.same;
}
