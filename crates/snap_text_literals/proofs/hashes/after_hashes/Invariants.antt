use Rattle.snap_text_literals.proofs.Prelude.{◌≡◌, Utf8, shadow, chars, past_hashes}
use Rattle.snap_text_literals.proofs.hashes.after_hashes.Given as goal

abbrev pub invariant-loop-left : goal.invariant-loop-left
invariant-loop-left l = record { utf8 : shadow (Utf8 l.rest); same : past_hashes l.left (chars l.rest) ≡ past_hashes l.fn.count (chars l.fn.text) }

abbrev pub decreases-loop-left : goal.decreases-loop-left
decreases-loop-left l = l.left
