use Rattle.snap_scan_blocks.proofs.Prelude.{ℕ, List, length, Travels, Passes}
use Rattle.snap_scan_blocks.proofs.indentation.skip_indentation.Given as goal

abbrev pub invariant-spaces : goal.invariant-spaces
invariant-spaces l = record {
  passed : (breaks : List ℕ) → Passes l.fn.indentation breaks l.fn.cursor breaks l.cursor;
  travels : Travels l.fn.cursor l.cursor;
}

abbrev pub decreases-spaces : goal.decreases-spaces
decreases-spaces l = length l.cursor.left
