use Rattle.snap_pending.proofs.Prelude.{◌≡◌, Some, take, Files, with_lines}
use Rattle.snap_io.specs.Changes.{all_changed}
use Rattle.snap_pending.specs.Saved.{rewrites}
use Rattle.snap_pending.proofs.saving.write_lines.Given as goal

abbrev pub invariant-loop-line : goal.invariant-loop-line
invariant-loop-line g l = record {
  written : (m : Files) → g.S.Store.files l.fn.store ≡ Some m → g.S.Store.files l.store ≡ Some (with_lines m l.path (take l.line-index l.lines));
  changed : (m : Files) → g.S.Store.files l.fn.store ≡ Some m → g.S.Store.files l.store ≡ Some (all_changed (rewrites l.path (take l.line-index l.lines)) m);
  calm : g.S.Store.faults l.store ≡ g.S.Store.faults l.fn.store;
}
