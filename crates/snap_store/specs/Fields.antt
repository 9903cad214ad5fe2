-- The metadata that a map tells, as in the header of a file. Pairs of other names are passed over.
use Rattle.std.specs.Prelude.{List, ℕ, Bool, Option, None, Some, codes, if◌then◌else◌}
use Rattle.snap_content.specs.Plain.{Entries, pairs_made}
use Rattle.snap_content.specs.Tree.{TreePairs}
use Rattle.snap_fields.specs.Fields.{is_text, text_at, line_at, last_filled_in}
use Rattle.snap_store.specs.Meta.{Meta}
use Rattle.snap_store.specs.declared.metadata.SnapshotKind.{SnapshotKind}
use Rattle.snap_store.specs.declared.metadata.SnapshotKind.TheVariants.{Text, Binary}

abbrev pub binary_kind : Option (List ℕ) → Option SnapshotKind
binary_kind None = None
binary_kind (Some extension) = Some (Binary extension)

-- the pairs say binary
abbrev pub tell_binary : TreePairs → Bool
tell_binary pairs = is_text (codes "binary") (text_at (codes "snapshot_kind") pairs)

-- the kind, but for a binary without an extension
abbrev pub kind_told : TreePairs → Option SnapshotKind
kind_told pairs = if tell_binary pairs then binary_kind (text_at (codes "extension") pairs) else Some Text

abbrev pub fields_told : TreePairs → SnapshotKind → Meta
fields_told pairs kind = record {
  source = text_at (codes "source") pairs;
  assertion_line = line_at (codes "assertion_line") pairs;
  description = text_at (codes "description") pairs;
  expression = text_at (codes "expression") pairs;
  info = last_filled_in (codes "info") pairs;
  input_file = text_at (codes "input_file") pairs;
  kind = kind;
}

-- the header says binary
abbrev pub is_binary : Entries → Bool
is_binary entries = tell_binary (pairs_made entries)

-- the kind that a header tells, but for a binary without an extension
abbrev pub kind_in : Entries → Option SnapshotKind
kind_in entries = kind_told (pairs_made entries)

-- the metadata that a header tells
abbrev pub fields : Entries → SnapshotKind → Meta
fields entries kind = fields_told (pairs_made entries) kind
