use Rattle.snap_review.proofs.Prelude.{◌≡◌, ◌++◌, drop, chars, answer_lines}
use Rattle.snap_review.proofs.plan.lines_of.Given as goal

-- the lines so far, and those of the rest, are all
abbrev pub invariant-loop-change : goal.invariant-loop-change
invariant-loop-change l = l.lines ++ answer_lines (chars l.word) (drop l.change-index l.changes) ≡ answer_lines (chars l.word) l.changes
