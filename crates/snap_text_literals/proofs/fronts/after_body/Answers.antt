use Rattle.snap_text_literals.proofs.Prelude.{rules, IsBody}
use Rattle.snap_text_literals.proofs.LiteralFronts.{reached_then, reached_body, body_ends, body_return, body_none}
use Rattle.snap_text_literals.proofs.fronts.after_body.Goals as goal

pub returns-in-Some-after_end : goal.returns-in-Some-after_end
returns-in-Some-after_end c = body_ends c.args.count _ _ _ c.loop-c.invariant.so_far c.in-Some-after_end.ensures

pub returns-then-c-eq13 : goal.returns-then-c-eq13
returns-then-c-eq13 c = body_return c.args.count _ _ c.in-Some.c _ c.loop-c.invariant.so_far c.in-Some.ensures c.if-c-eq13.true

pub loop-c-preserved : goal.loop-c-preserved
loop-c-preserved c = record {
  utf8 = search rules;
  so_far = reached_then (IsBody c.args.count) _ _ _ c.loop-c.invariant.so_far
      (reached_body c.args.count _ c.in-Some.c _ c.in-Some.ensures c.if-c-eq13.false c.in_default-after_end.ensures);
}

pub returns : goal.returns
returns c = body_none c.args.count _ _ c.loop-c.invariant.so_far c.in_default.ensures
