-- What a comparator says of snapshots, and when a new one passes by it.
use Rattle.std.specs.Prelude.{◌≡◌, ◌↔◌, Bool, false, Option, None, Some, IsTrue, MatchBool}
use Rattle.snap_store.specs.Views.{SnapshotView}

-- what is said of an old and a new snapshot
abbrev pub Relation : Type 1
Relation = SnapshotView → SnapshotView → Type 0

-- the one relation of a comparator, or the full one where that is asked
abbrev pub asked_relation : Relation → Relation → Bool → Relation
asked_relation agrees agrees_fully fully old new = MatchBool fully (agrees_fully old new) (agrees old new)

-- a pass exactly where there is an old snapshot that was understood, and the relation holds of it and the new one
abbrev pub PassesBy : Relation → Option SnapshotView → SnapshotView → Bool → Type 0
PassesBy relation None new passed = passed ≡ false
PassesBy relation (Some old) new passed = IsTrue passed ↔ relation old new
