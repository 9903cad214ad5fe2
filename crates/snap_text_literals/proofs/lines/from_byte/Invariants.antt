use Rattle.snap_text_literals.proofs.Prelude.{◌≡◌, length, Utf8, shadow, chars, from_byte}
use Rattle.snap_text_literals.proofs.lines.from_byte.Given as goal

abbrev pub invariant-loop-c : goal.invariant-loop-c
invariant-loop-c l = record { utf8 : shadow (Utf8 l.rest); same : from_byte l.left (chars l.rest) ≡ from_byte l.fn.byte (chars l.fn.line) }

abbrev pub decreases-loop-c : goal.decreases-loop-c
decreases-loop-c l = length (chars l.rest)
