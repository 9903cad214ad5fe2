use Rattle.snap_print.proofs.Prelude.{length, Utf8, shadow, chars, IsBareBefore}
use Rattle.snap_print.proofs.escaping.after_bare.Given as goal

abbrev pub invariant-loop-c : goal.invariant-loop-c
invariant-loop-c l = record { utf8 : shadow (Utf8 l.rest); passed : IsBareBefore (chars l.fn.text) (chars l.rest) }

abbrev pub decreases-loop-c : goal.decreases-loop-c
decreases-loop-c l = length (chars l.rest)
