use Rattle.snap_explain_values.proofs.Prelude.{◌≡◌, false, take, list_any, tree}
use Rattle.snap_explain_values.proofs.MissedHere.{misses}
use Rattle.snap_explain_values.proofs.missing.first_missed.Given as goal

-- each so far hits something
abbrev pub invariant-loop-place : goal.invariant-loop-place
invariant-loop-place l = list_any (misses (tree l.value)) (take l.place l.redactions) ≡ false
