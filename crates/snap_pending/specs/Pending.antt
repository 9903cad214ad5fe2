-- What pending records are seen as.
use Rattle.std.specs.Prelude.{ℕ, List, Option, option_map}
use Rattle.snap_store.specs.Views.{SnapshotView, snapshot_of}
use Rattle.snap_pending.specs.declared.pending.PendingInlineSnapshot.{PendingInlineSnapshot}

-- a record: its run, its line, and the new and the old snapshot where it has them
pub record Pending : Type 0 where
  pub run_id : List ℕ
  pub line : ℕ
  pub new_snapshot : Option SnapshotView
  pub old_snapshot : Option SnapshotView

-- what a record is seen as
abbrev pub pending_of : PendingInlineSnapshot → Pending
pending_of pending = record {
  run_id = pending.run_id;
  line = pending.line;
  new_snapshot = option_map snapshot_of pending.new_snapshot;
  old_snapshot = option_map snapshot_of pending.old_snapshot;
}
