use Rattle.snap_scan_blocks.proofs.Prelude.{◌≡◌, ◌≤◌, ℕ, max, length, Travels, widest, first_sign, Passes}
use Rattle.snap_scan_blocks.proofs.indentation.scan_leading_lines.Given as goal

abbrev pub invariant-lines : goal.invariant-lines
invariant-lines l = record {
  column : max l.reached (widest l.cursor.left l.cursor.col) ≡ widest l.fn.cursor.left l.fn.cursor.col;
  sign : first_sign l.cursor.left ≡ first_sign l.fn.cursor.left;
  passed : (n : ℕ) → widest l.fn.cursor.left l.fn.cursor.col ≤ n → Passes n l.fn.breaks l.fn.cursor l.breaks l.cursor;
  travels : Travels l.fn.cursor l.cursor;
}

abbrev pub decreases-lines : goal.decreases-lines
decreases-lines l = length l.cursor.left
