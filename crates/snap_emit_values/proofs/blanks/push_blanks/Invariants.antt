use Rattle.snap_emit_values.proofs.Prelude.{◌≡◌, ◌++◌, ◌≤◌, ◌-◌, blanks}
use Rattle.snap_emit_values.proofs.blanks.push_blanks.Given as goal

abbrev pub invariant-wide : goal.invariant-wide
invariant-wide l = record { added : l.out ≡ l.fn.out ++ blanks l.done; within : l.done ≤ l.count }

abbrev pub decreases-wide : goal.decreases-wide
decreases-wide l = l.count - l.done
