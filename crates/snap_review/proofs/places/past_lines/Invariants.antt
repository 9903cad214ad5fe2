use Rattle.snap_review.proofs.Prelude.{◌≡◌, Utf8, shadow, chars, past_lines}
use Rattle.snap_review.proofs.places.past_lines.Given as goal

abbrev pub invariant-loop-left : goal.invariant-loop-left
invariant-loop-left l = record { utf8 : shadow (Utf8 l.rest); same : past_lines l.left (chars l.rest) ≡ past_lines l.fn.count (chars l.fn.text) }

abbrev pub decreases-loop-left : goal.decreases-loop-left
decreases-loop-left l = l.left
