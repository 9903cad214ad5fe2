use Rattle.snap_text_literals.proofs.Prelude.{rules, Inside}
use Rattle.snap_text_literals.proofs.LiteralFronts.{reached_then, reached_unit, quoted_ends, quoted_none}
use Rattle.snap_text_literals.proofs.fronts.after_quoted.Goals as goal

pub loop-more-preserved : goal.loop-more-preserved
loop-more-preserved c = record {
  utf8 = search rules;
  so_far = reached_then Inside _ _ _ c.loop-more.invariant.so_far (reached_unit _ _ _ c.in-Some.ensures.unit);
}

pub returns-in-Some-after_character : goal.returns-in-Some-after_character
returns-in-Some-after_character c = quoted_ends _ _ _ c.loop-more.invariant.so_far c.in-Some-after_character.ensures

pub returns-in-None : goal.returns-in-None
returns-in-None c = quoted_none _ _ c.loop-more.invariant.so_far c.in_default.ensures.unit c.in-None.ensures
