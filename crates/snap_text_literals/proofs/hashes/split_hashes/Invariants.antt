use Rattle.snap_text_literals.proofs.Prelude.{◌≡◌, ◌++◌, length, Utf8, shadow, chars, hashes}
use Rattle.snap_text_literals.proofs.hashes.split_hashes.Given as goal

abbrev pub invariant-loop-more : goal.invariant-loop-more
invariant-loop-more l = record { utf8 : shadow (Utf8 l.rest); is : chars l.fn.text ≡ hashes l.count ++ chars l.rest }

abbrev pub decreases-loop-more : goal.decreases-loop-more
decreases-loop-more l = length (chars l.rest)
