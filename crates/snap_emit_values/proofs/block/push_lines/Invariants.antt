use Rattle.snap_emit_values.proofs.Prelude.{◌≡◌, ◌++◌, List, ℕ, length, Utf8, shadow, chars, shifted}
use Rattle.snap_emit_values.proofs.block.push_lines.Given as goal

abbrev pub invariant-lines : goal.invariant-lines
invariant-lines l = record {
  utf8 : shadow (Utf8 l.rest);
  done : List ℕ;
  added : l.out ≡ l.fn.out ++ done;
  split : shifted l.fn.column (chars l.fn.text) ≡ done ++ shifted l.fn.column (chars l.rest);
}

abbrev pub decreases-lines : goal.decreases-lines
decreases-lines l = length (chars l.rest)
