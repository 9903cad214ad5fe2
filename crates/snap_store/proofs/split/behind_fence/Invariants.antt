use Rattle.snap_store.proofs.Prelude.{◌≡◌, length, Utf8, shadow, chars, ended_lines, past_fence}
use Rattle.snap_store.proofs.split.behind_fence.Given as goal

abbrev pub invariant-loop-piece : goal.invariant-loop-piece
invariant-loop-piece l = record { utf8 : shadow (Utf8 l.rest); same : past_fence (ended_lines (chars l.rest)) ≡ past_fence (ended_lines (chars l.fn.text)) }

abbrev pub decreases-loop-piece : goal.decreases-loop-piece
decreases-loop-piece l = length (chars l.rest)
