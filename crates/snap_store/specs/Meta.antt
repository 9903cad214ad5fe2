-- The metadata of a snapshot, and the tree that they are written as.
use Rattle.std.specs.Prelude.{ℕ, pos, List, [], ◌∷◌, Option, None, Some, codes}
use Rattle.snap_content.specs.Plain.{Plain, plain, text, int, dict, Entries, entry, no_entries}
use Rattle.snap_content.specs.Tree.{Tree}
use Rattle.snap_store.specs.FileSplit.{legacy_source, legacy_expression}
use Rattle.snap_store.specs.declared.metadata.SnapshotKind.{SnapshotKind}
use Rattle.snap_store.specs.declared.metadata.SnapshotKind.TheVariants.{Text, Binary}

-- metadata: the source, the line, the description, the expression, the info, the input file and the kind
pub record Meta : Type 0 where
  pub source : Option (List ℕ)
  pub assertion_line : Option ℕ
  pub description : Option (List ℕ)
  pub expression : Option (List ℕ)
  pub info : Option Tree
  pub input_file : Option (List ℕ)
  pub kind : SnapshotKind

-- metadata of a text without any field
abbrev pub empty_meta : Meta
empty_meta = record { source = None; assertion_line = None; description = None; expression = None; info = None; input_file = None; kind = Text }

-- the metadata of a file without a header: two fields at most
abbrev pub legacy_meta : List ℕ → Meta
legacy_meta whole = record empty_meta { source = legacy_source whole; expression = legacy_expression whole }

-- the text of a field, where it is not empty
abbrev pub shown_text : Option (List ℕ) → Option (List ℕ)
shown_text None = None
shown_text (Some []) = None
shown_text (Some (c ∷ cs)) = Some (c ∷ cs)

-- metadata as they are written into the file of an approved snapshot, without the line
abbrev pub without_line : Meta → Meta
without_line meta = record meta { assertion_line = None }

-- a field, where it stands
abbrev pub text_field : List ℕ → Option (List ℕ) → Entries → Entries
text_field name None rest = rest
text_field name (Some value) rest = entry (text name) (text value) rest

abbrev pub line_field : Option ℕ → Entries → Entries
line_field None rest = rest
line_field (Some line) rest = entry (text (codes "assertion_line")) (int (pos line)) rest

abbrev pub info_field : Option Tree → Entries → Entries
info_field None rest = rest
info_field (Some value) rest = entry (text (codes "info")) (plain value) rest

abbrev pub kind_fields : SnapshotKind → Entries
kind_fields Text = no_entries
kind_fields (Binary extension) =
    entry (text (codes "extension")) (text extension) (entry (text (codes "snapshot_kind")) (text (codes "binary")) no_entries)

-- the fields that stand, in their order
abbrev pub header_entries : Meta → Entries
header_entries meta =
    text_field (codes "source") meta.source (line_field meta.assertion_line (text_field (codes "description") meta.description (
    text_field (codes "expression") meta.expression (info_field meta.info (text_field (codes "input_file") meta.input_file (kind_fields meta.kind))))))

-- the tree of a header: a dict of the fields that are set, in their order
abbrev pub header_tree : Meta → Plain
header_tree meta = dict (header_entries meta)
