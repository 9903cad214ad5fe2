use Rattle.snap_scan_blocks.proofs.Prelude.{◌≡◌, true, length, Travels, between, is_open}
use Rattle.snap_scan_blocks.proofs.lines.Lines.scan.Given as goal

abbrev pub invariant-lines : goal.invariant-lines
invariant-lines l = record {
  stands : is_open l.fn.indentation l.cursor ≡ true;
  same : between l.fn.indentation l.fn.literal l.self l.cursor.left l.cursor ≡ between l.fn.indentation l.fn.literal l.fn.self l.fn.cursor.left l.fn.cursor;
  travels : Travels l.fn.cursor l.cursor;
}

abbrev pub decreases-lines : goal.decreases-lines
decreases-lines l = length l.cursor.left
