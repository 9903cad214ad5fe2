use Rattle.snap_scan_tokens.proofs.Prelude.{◌≡◌, ◌≤◌, ◌<◌, ◌-◌, ◌^◌, ℕ, List, Travels, digits, are_digits}
use Rattle.snap_scan_tokens.proofs.escapes.scan_code.Given as goal

abbrev pub invariant-digits : goal.invariant-digits
invariant-digits l = record {
  few : l.left ≤ l.fn.further;
  small : l.value < 16 ^ (l.fn.further - l.left);
  same : (text : List ℕ) → digits l.left l.value text l.cursor.left l.cursor ≡ digits l.fn.further 0 text l.fn.cursor.left l.fn.cursor;
  fault : are_digits l.left l.cursor.left ≡ are_digits l.fn.further l.fn.cursor.left;
  travels : Travels l.fn.cursor l.cursor;
}

abbrev pub decreases-digits : goal.decreases-digits
decreases-digits l = l.left
