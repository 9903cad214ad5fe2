use Rattle.snap_explain_scalars.proofs.Prelude.{length, Utf8, shadow, chars}
use Rattle.snap_explain_scalars.proofs.Cuts.{IsPassed}
use Rattle.snap_explain_scalars.proofs.parts.split_part.Given as goal

abbrev pub invariant-loop-c : goal.invariant-loop-c
invariant-loop-c l = record {
  utf8 : shadow (Utf8 l.rest);
  passed : IsPassed (chars l.text) (chars l.rest);
}

abbrev pub decreases-loop-c : goal.decreases-loop-c
decreases-loop-c l = length (chars l.rest)
