use Rattle.snap_text_literals.proofs.Prelude.{length, Utf8, shadow, chars, Inside}
use Rattle.snap_text_literals.proofs.LiteralFronts.{IsReached}
use Rattle.snap_text_literals.proofs.fronts.after_quoted.Given as goal

abbrev pub invariant-loop-more : goal.invariant-loop-more
invariant-loop-more l = record { utf8 : shadow (Utf8 l.rest); so_far : IsReached Inside (chars l.fn.source) (chars l.rest) }

abbrev pub decreases-loop-more : goal.decreases-loop-more
decreases-loop-more l = length (chars l.rest)
