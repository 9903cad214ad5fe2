use Rattle.snap_emit_values.proofs.Prelude.{◌≡◌, length, Utf8, shadow, chars, core}
use Rattle.snap_emit_values.proofs.block.trim_line_ends.Given as goal

abbrev pub invariant-loop-front : goal.invariant-loop-front
invariant-loop-front l = record { utf8 : shadow (Utf8 l.rest); same : core (chars l.rest) ≡ core (chars l.initial.text) }

abbrev pub decreases-loop-front : goal.decreases-loop-front
decreases-loop-front l = length (chars l.rest)
