use Rattle.snap_text_literals.proofs.Prelude.{◌≡◌, length, Utf8, shadow, chars}
use Rattle.snap_text_literals.specs.Legacy.{without_breaks}
use Rattle.snap_text_literals.proofs.legacy.without_breaks.Given as goal

abbrev pub invariant-loop-c : goal.invariant-loop-c
invariant-loop-c l = record { utf8 : shadow (Utf8 l.rest); same : without_breaks (chars l.rest) ≡ without_breaks (chars l.initial.text) }

abbrev pub decreases-loop-c : goal.decreases-loop-c
decreases-loop-c l = length (chars l.rest)
