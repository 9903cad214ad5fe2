use Rattle.snap_explain_unused.proofs.Prelude.{◌≡◌}
use Rattle.snap_explain_unused.proofs.LeftFiles.{LookedSoFar}
use Rattle.snap_explain_unused.proofs.looking.find_unused.Given as goal

abbrev pub invariant-loop-path : goal.invariant-loop-path
invariant-loop-path g l = record {
  so_far : LookedSoFar l.asked.keys l.path-iterator l.folders.keys (g.F.Store.files l.fn.store) l.unused.keys;
  count : g.F.Store.faults l.store ≡ g.F.Store.faults l.fn.store;
  files : g.F.Store.files l.store ≡ g.F.Store.files l.fn.store;
}
