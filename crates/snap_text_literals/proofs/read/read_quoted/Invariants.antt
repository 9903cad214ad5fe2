use Rattle.snap_text_literals.proofs.Prelude.{length, Utf8, shadow, chars, Inside}
use Rattle.snap_text_literals.proofs.Reading.{IsReading}
use Rattle.snap_text_literals.proofs.read.read_quoted.Given as goal

abbrev pub invariant-loop-given : goal.invariant-loop-given
invariant-loop-given l = record { utf8 : shadow (Utf8 l.rest); so_far : IsReading Inside (chars l.fn.source) l.made (chars l.rest) }

abbrev pub decreases-loop-given : goal.decreases-loop-given
decreases-loop-given l = length (chars l.rest)
