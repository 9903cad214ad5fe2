use Rattle.snap_review.proofs.Prelude.{◌≡◌, ◌++◌, map, flat_map, pending_of, chosen, asked}
use Rattle.snap_review.proofs.chosen.chosen.Given as goal

-- what was asked for so far, and what the rest asks for, is all
abbrev pub invariant-loop-record : goal.invariant-loop-record
invariant-loop-record l = l.changes.items ++ flat_map asked l.record-iterator ≡ chosen (map pending_of l.records)
