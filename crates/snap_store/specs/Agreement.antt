-- When the contents of two snapshots agree.
use Rattle.std.specs.Prelude.{◌≡◌}
use Rattle.snap_text.specs.Contents.{TextsAgree}
use Rattle.snap_store.specs.declared.contents.SnapshotContents.{SnapshotContents}
use Rattle.snap_store.specs.declared.contents.SnapshotContents.TheVariants.{Text, Binary}

-- two texts where they have one normal form or one older form, each by its kind, two payloads where they are equal or both absent, and nothing else
abbrev pub Agree : SnapshotContents → SnapshotContents → Type 0
Agree (Text a) (Text b) = TextsAgree a b
Agree (Text a) (Binary b) = ⊥
Agree (Binary a) (Text b) = ⊥
Agree (Binary a) (Binary b) = a ≡ b
