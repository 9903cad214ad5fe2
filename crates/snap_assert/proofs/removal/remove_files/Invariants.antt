use Rattle.snap_assert.proofs.Prelude.{◌≡◌, Some, take, Files, remove_each}
use Rattle.snap_assert.proofs.removal.remove_files.Given as goal

abbrev pub invariant-loop-path : goal.invariant-loop-path
invariant-loop-path g l = record {
  gone : (m : Files) → g.S.Store.files l.fn.store ≡ Some m → g.S.Store.files l.store ≡ Some (remove_each (take l.path-index l.paths) m);
  count : g.S.Store.faults l.store ≡ g.S.Store.faults l.fn.store;
}
