use Rattle.snap_scan.proofs.Prelude.{◌≡◌, length, state_of, extent, spent, work, unrolled}
use Rattle.snap_scan.proofs.fetcher.Fetcher.unroll_indent.Given as goal

abbrev pub invariant-loop-column : goal.invariant-loop-column
invariant-loop-column l = record {
  same : unrolled l.fn.col (state_of l.self) ≡ unrolled l.fn.col (state_of l.fn.self);
  still : l.self.ended ≡ l.fn.self.ended;
  cost : spent (state_of l.self) ≡ spent (state_of l.fn.self);
  work : work (state_of l.self) ≡ work (state_of l.fn.self);
  extent : extent (state_of l.self) ≡ extent (state_of l.fn.self);
}

abbrev pub decreases-loop-column : goal.decreases-loop-column
decreases-loop-column l = length l.self.columns
