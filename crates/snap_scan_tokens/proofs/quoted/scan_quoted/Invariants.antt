use Rattle.snap_scan_tokens.proofs.Prelude.{◌≡◌, ◌≤◌, ◌+◌, length, EndsIn, Travels, quoted_at, quoted_from}
use Rattle.snap_scan_tokens.proofs.quoted.scan_quoted.Given as goal

abbrev pub invariant-characters : goal.invariant-characters
invariant-characters l = record {
  behind : EndsIn l.text.behind l.cursor.left;
  same : quoted_at l.fn.quotes l.text l.gap l.cursor ≡ quoted_from l.fn.quotes l.fn.cursor;
  travels : Travels l.fn.cursor l.cursor;
  falls : length l.cursor.left + 1 ≤ length l.fn.cursor.left;
}

abbrev pub decreases-characters : goal.decreases-characters
decreases-characters l = length l.cursor.left
