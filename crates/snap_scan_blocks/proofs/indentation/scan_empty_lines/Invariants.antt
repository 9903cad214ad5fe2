use Rattle.snap_scan_blocks.proofs.Prelude.{length, Travels, Passes}
use Rattle.snap_scan_blocks.proofs.indentation.scan_empty_lines.Given as goal

abbrev pub invariant-lines : goal.invariant-lines
invariant-lines l = record {
  passed : Passes l.fn.indentation l.fn.breaks l.fn.cursor l.breaks l.cursor;
  travels : Travels l.fn.cursor l.cursor;
}

abbrev pub decreases-lines : goal.decreases-lines
decreases-lines l = length l.cursor.left
