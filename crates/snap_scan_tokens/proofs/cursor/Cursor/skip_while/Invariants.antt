use Rattle.snap_scan_tokens.proofs.Prelude.{◌≡◌, length, Travels, skipped_while, is_of}
use Rattle.snap_scan_tokens.proofs.cursor.Cursor.skip_while.Given as goal

abbrev pub invariant-characters : goal.invariant-characters
invariant-characters l = record {
  same : skipped_while (is_of l.fn.kind) l.self ≡ skipped_while (is_of l.fn.kind) l.fn.self;
  travels : Travels l.fn.self l.self;
}

abbrev pub decreases-characters : goal.decreases-characters
decreases-characters l = length l.self.left
