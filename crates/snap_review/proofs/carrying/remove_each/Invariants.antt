use Rattle.snap_review.proofs.Prelude.{◌≡◌, Some, map, take, Files, removes, all_changed}
use Rattle.snap_review.proofs.carrying.remove_each.Given as goal

-- those before are gone, and nothing failed
abbrev pub invariant-loop-path : goal.invariant-loop-path
invariant-loop-path g l = record {
  gone : (m : Files) → g.S.Store.files l.fn.store ≡ Some m → g.S.Store.files l.store ≡ Some (all_changed (map removes (take l.path-index l.paths)) m);
  count : g.S.Store.faults l.store ≡ g.S.Store.faults l.fn.store;
}
