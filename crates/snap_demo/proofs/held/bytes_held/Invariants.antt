use Rattle.snap_demo.proofs.Prelude.{◌≡◌, ◌-◌, ◌+◌, ◌*◌, ◌^◌, ◌≤◌, Some}
use Rattle.snap_io.specs.Files.{Files}
use Rattle.snap_demo.specs.Held.{bytes_held}
use Rattle.snap_demo.specs.Paths.{paths_from, demo_paths}
use Rattle.snap_demo.proofs.held.bytes_held.Given as goal

abbrev pub invariant-loop-index : goal.invariant-loop-index
invariant-loop-index g l = record {
  total : (m : Files) → g.F.Store.files l.fn.store ≡ Some m → l.total + bytes_held (paths_from l.index (l.count - l.index)) m ≡ bytes_held (demo_paths l.count) m;
  few : l.total ≤ l.index * 2 ^ 64;
  same : g.F.Store.files l.store ≡ g.F.Store.files l.fn.store;
  count : g.F.Store.faults l.store ≡ g.F.Store.faults l.fn.store;
  untouched : l.count ≡ 0 → l.store ≡ l.fn.store;
}
