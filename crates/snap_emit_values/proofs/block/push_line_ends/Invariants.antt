use Rattle.snap_emit_values.proofs.Prelude.{◌≡◌, ◌++◌, line_ends}
use Rattle.snap_emit_values.proofs.block.push_line_ends.Given as goal

abbrev pub invariant-loop-done : goal.invariant-loop-done
invariant-loop-done l = l.out ≡ l.initial.out ++ line_ends l.done
