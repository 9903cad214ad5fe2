use Rattle.snap_text_literals.proofs.Prelude.{◌≡◌, ◌++◌, hashes}
use Rattle.snap_text_literals.proofs.spelling.push_hashes.Given as goal

abbrev pub invariant-loop-left : goal.invariant-loop-left
invariant-loop-left l = l.made ++ hashes l.left ≡ l.fn.made ++ hashes l.fn.count

abbrev pub decreases-loop-left : goal.decreases-loop-left
decreases-loop-left l = l.left
