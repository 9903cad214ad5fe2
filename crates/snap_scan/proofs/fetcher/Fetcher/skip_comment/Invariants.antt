use Rattle.snap_scan.proofs.Prelude.{◌≡◌, ◌≤◌, length, state_of, extent, spent, work, past_comment}
use Rattle.snap_scan.proofs.fetcher.Fetcher.skip_comment.Given as goal

abbrev pub invariant-characters : goal.invariant-characters
invariant-characters l = record {
  same : past_comment l.self.cursor.left (state_of l.self) ≡ past_comment l.fn.self.cursor.left (state_of l.fn.self);
  still : l.self.ended ≡ l.fn.self.ended;
  cost : spent (state_of l.self) ≤ spent (state_of l.fn.self);
  work : work (state_of l.self) ≤ work (state_of l.fn.self);
  extent : extent (state_of l.self) ≡ extent (state_of l.fn.self);
}

abbrev pub decreases-characters : goal.decreases-characters
decreases-characters l = length l.self.cursor.left
