use Rattle.snap_scan.proofs.Prelude.{◌≡◌, ◌≤◌, ℕ, List, Bool, false, Owes, state_of, extent, work, left_of, has_ended, TokenType, IsSound}
use Rattle.snap_scan.proofs.fetcher.Fetcher.fetch_more_tokens.Given as goal

abbrev pub invariant-fetching : goal.invariant-fetching
invariant-fetching l = record {
  fresh : has_ended (state_of l.self) ≡ false;
  law : left_of (state_of l.self) ≤ left_of (state_of l.fn.self);
  sound : (ahead : Bool) (source : List ℕ) → IsSound ahead source (state_of l.fn.self) → IsSound ahead source (state_of l.self);
  owed : (ahead : Bool) (source : List ℕ) (ts : List TokenType) → IsSound ahead source (state_of l.fn.self) → Owes (state_of l.fn.self) ts → Owes (state_of l.self) ts;
  extent : extent (state_of l.self) ≡ extent (state_of l.fn.self);
}

abbrev pub decreases-fetching : goal.decreases-fetching
decreases-fetching l = work (state_of l.self)
