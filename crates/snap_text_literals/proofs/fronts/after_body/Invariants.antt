use Rattle.snap_text_literals.proofs.Prelude.{length, Utf8, shadow, chars, IsBody}
use Rattle.snap_text_literals.proofs.LiteralFronts.{IsReached}
use Rattle.snap_text_literals.proofs.fronts.after_body.Given as goal

abbrev pub invariant-loop-c : goal.invariant-loop-c
invariant-loop-c l = record { utf8 : shadow (Utf8 l.rest); so_far : IsReached (IsBody l.fn.count) (chars l.fn.source) (chars l.rest) }

abbrev pub decreases-loop-c : goal.decreases-loop-c
decreases-loop-c l = length (chars l.rest)
