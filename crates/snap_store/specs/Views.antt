-- What metadata and snapshots are seen as.
use Rattle.std.specs.Prelude.{◌≡◌, ℕ, Bool, List, Option, None, Some, option_map}
use Rattle.snap_content.specs.View.{tree}
use Rattle.snap_text.specs.Contents.{compared_of, kind_of}
use Rattle.snap_text.specs.declared.contents.TextSnapshotKind.TheVariants.{File}
use Rattle.snap_store.specs.Meta.{Meta}
use Rattle.snap_store.specs.declared.metadata.MetaData.{MetaData}
use Rattle.snap_store.specs.declared.contents.SnapshotContents.{SnapshotContents}
use Rattle.snap_store.specs.declared.contents.SnapshotContents.TheVariants.{Text, Binary}
use Rattle.snap_store.specs.declared.snapshot.Snapshot.{Snapshot}

-- what metadata are seen as
abbrev pub meta_of : MetaData → Meta
meta_of metadata = record {
  source = metadata.source;
  assertion_line = metadata.assertion_line;
  description = metadata.description;
  expression = metadata.expression;
  info = option_map tree metadata.info;
  input_file = metadata.input_file;
  kind = metadata.kind;
}

-- the module of a snapshot
abbrev pub module_in : Snapshot → List ℕ
module_in snapshot = snapshot.module_name

-- the name of a snapshot, if it has one
abbrev pub name_in : Snapshot → Option (List ℕ)
name_in snapshot = snapshot.snapshot_name

-- what the metadata of a snapshot are seen as
abbrev pub meta_in : Snapshot → Meta
meta_in snapshot = meta_of snapshot.metadata

-- the contents of a snapshot
abbrev pub contents_in : Snapshot → SnapshotContents
contents_in snapshot = snapshot.contents

-- a snapshot that was read from a file without a header
abbrev pub legacy_in : Snapshot → Bool
legacy_in snapshot = snapshot.was_legacy

-- whether a number of its header was kept as a text
abbrev pub number_text_in : Snapshot → Bool
number_text_in snapshot = snapshot.number_as_text

-- a snapshot: its names, its metadata, its contents, and what is told of the file that it was read from
pub record SnapshotView : Type 0 where
  pub module_name : List ℕ
  pub snapshot_name : Option (List ℕ)
  pub meta : Meta
  pub contents : SnapshotContents
  pub was_legacy : Bool
  pub number_as_text : Bool

-- what a snapshot is seen as
abbrev pub snapshot_of : Snapshot → SnapshotView
snapshot_of snapshot = record {
  module_name = module_in snapshot;
  snapshot_name = name_in snapshot;
  meta = meta_in snapshot;
  contents = contents_in snapshot;
  was_legacy = legacy_in snapshot;
  number_as_text = number_text_in snapshot;
}

-- of text contents what is compared and saved: the raw text of a file, and an inline one without the indentation that its lines share
abbrev pub text_in : SnapshotContents → Option (List ℕ)
text_in (Text contents) = Some (compared_of contents)
text_in (Binary payload) = None

-- these contents with another payload; a text stays as it is
abbrev pub with_payload : Option (List ℕ) → SnapshotContents → SnapshotContents
with_payload payload (Text contents) = Text contents
with_payload payload (Binary old) = Binary payload

-- the contents are the text of a file
abbrev pub IsFileText : SnapshotContents → Type 0
IsFileText (Text contents) = kind_of contents ≡ File
IsFileText (Binary payload) = ⊥
