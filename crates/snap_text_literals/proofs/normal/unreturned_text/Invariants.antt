use Rattle.snap_text_literals.proofs.Prelude.{◌≡◌, ◌++◌, length, Utf8, shadow, chars, unreturned}
use Rattle.snap_text_literals.proofs.normal.unreturned_text.Given as goal

-- the lines so far, and those of what is left
abbrev pub invariant-loop-line : goal.invariant-loop-line
invariant-loop-line l = record { utf8 : shadow (Utf8 l.rest); so_far : l.made ++ unreturned (chars l.rest) ≡ unreturned (chars l.fn.text) }

abbrev pub decreases-loop-line : goal.decreases-loop-line
decreases-loop-line l = length (chars l.rest)
