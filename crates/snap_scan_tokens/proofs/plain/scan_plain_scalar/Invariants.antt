use Rattle.snap_scan_tokens.proofs.Prelude.{◌≡◌, ◌≤◌, ◌+◌, length, gap_of, before, EndsIn, Travels, plain, plain_from}
use Rattle.snap_scan_tokens.proofs.plain.scan_plain_scalar.Given as goal

abbrev pub invariant-characters : goal.invariant-characters
invariant-characters l = record {
  behind : EndsIn l.text.behind l.cursor.left;
  inside : EndsIn l.fn.cursor.left l.cursor.left;
  same : plain l.fn.indent l.fn.in_flow (gap_of l.gap (before l.text.behind l.cursor.left)) l.text.text l.cursor.left l.cursor ≡ plain_from l.fn.indent l.fn.in_flow l.fn.cursor;
  travels : Travels l.fn.cursor l.cursor;
  falls : length l.cursor.left + 1 ≤ length l.fn.cursor.left;
}

abbrev pub decreases-characters : goal.decreases-characters
decreases-characters l = length l.cursor.left
