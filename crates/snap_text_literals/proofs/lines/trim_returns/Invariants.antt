use Rattle.snap_text_literals.proofs.Prelude.{◌≡◌, length, Utf8, shadow, chars, without_returns}
use Rattle.snap_text_literals.proofs.lines.trim_returns.Given as goal

abbrev pub invariant-loop-front : goal.invariant-loop-front
invariant-loop-front l = record { utf8 : shadow (Utf8 l.rest); same : without_returns (chars l.rest) ≡ without_returns (chars l.initial.text) }

abbrev pub decreases-loop-front : goal.decreases-loop-front
decreases-loop-front l = length (chars l.rest)
