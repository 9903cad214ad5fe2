use Rattle.snap_review.proofs.Prelude.{length, Utf8, shadow, chars}
use Rattle.snap_review.proofs.Marks.{IsSearched}
use Rattle.snap_review.proofs.places.first_marked.Given as goal

abbrev pub invariant-loop-here : goal.invariant-loop-here
invariant-loop-here l = record { utf8 : shadow (Utf8 l.rest); so_far : IsSearched (chars l.fn.text) (chars l.rest) }

abbrev pub decreases-loop-here : goal.decreases-loop-here
decreases-loop-here l = length (chars l.rest)
