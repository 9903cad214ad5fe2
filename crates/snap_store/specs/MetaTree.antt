-- The tree that metadata are made as, and what a tree is read as.
use Rattle.std.specs.Prelude.{◌≡◌, ℕ, List, Option, None, Some, Result, Ok, Err, codes, if◌then◌else◌}
use Rattle.snap_content.specs.Tree.{Tree, string, u32, map, TreePairs, no_pairs, pair}
use Rattle.snap_content.specs.declared.error.Error.{Error}
use Rattle.snap_content.specs.declared.error.Error.TheVariants.{FailedParsingYaml, UnexpectedDataType, MissingField, FileIo, FloatText, JsonKey, NotText, NoFile, OutOfMemory}
use Rattle.snap_fields.specs.Fields.{is_nil}
use Rattle.snap_store.specs.Meta.{Meta}
use Rattle.snap_store.specs.Fields.{kind_told, fields_told}
use Rattle.snap_store.specs.Views.{meta_of}
use Rattle.snap_store.specs.declared.metadata.MetaData.{MetaData}
use Rattle.snap_store.specs.declared.metadata.SnapshotKind.{SnapshotKind}
use Rattle.snap_store.specs.declared.metadata.SnapshotKind.TheVariants.{Text, Binary}

-- a field, where it stands
abbrev pub text_pair : List ℕ → Option (List ℕ) → TreePairs → TreePairs
text_pair name None rest = rest
text_pair name (Some value) rest = pair (string name) (string value) rest

abbrev pub line_pair : Option ℕ → TreePairs → TreePairs
line_pair None rest = rest
line_pair (Some line) rest = pair (string (codes "assertion_line")) (u32 line) rest

abbrev pub info_pair : Option Tree → TreePairs → TreePairs
info_pair None rest = rest
info_pair (Some info) rest = pair (string (codes "info")) info rest

abbrev pub kind_pairs : SnapshotKind → TreePairs
kind_pairs Text = no_pairs
kind_pairs (Binary extension) =
    pair (string (codes "extension")) (string extension) (pair (string (codes "snapshot_kind")) (string (codes "binary")) no_pairs)

-- the fields that stand, in their order
abbrev pub meta_pairs : Meta → TreePairs
meta_pairs meta =
    text_pair (codes "source") meta.source (line_pair meta.assertion_line (text_pair (codes "description") meta.description (
    text_pair (codes "expression") meta.expression (info_pair meta.info (text_pair (codes "input_file") meta.input_file (kind_pairs meta.kind))))))

-- metadata as a tree: a map of the fields that are set, in their order
abbrev pub meta_tree : Meta → Tree
meta_tree meta = map (meta_pairs meta)

-- a nil info is as if it were not there
abbrev pub filled_info : Option Tree → Option Tree
filled_info None = None
filled_info (Some info) = if is_nil info then None else Some info

-- metadata in which a nil info is as if it were not there
abbrev pub without_nil_info : Meta → Meta
without_nil_info meta = record meta { info = filled_info meta.info }

-- the tree is a map whose pairs tell these metadata
pub record TellsFields (t : Tree) (meta : Meta) : Type 0 where
  pub pairs : TreePairs
  pub is_map : t ≡ map pairs
  pub kind_is : kind_told pairs ≡ Some meta.kind
  pub fields_are : meta ≡ fields_told pairs meta.kind

-- the tree is a map whose pairs say binary, without a text `extension`
pub record TellsNoKind (t : Tree) : Type 0 where
  pub pairs : TreePairs
  pub is_map : t ≡ map pairs
  pub lacking : kind_told pairs ≡ None

-- what a tree is read as
abbrev pub TreeEnd : Tree → Result MetaData Error → Type 0
TreeEnd t (Ok metadata) = TellsFields t (meta_of metadata)
TreeEnd t (Err UnexpectedDataType) = (pairs : TreePairs) → t ≡ map pairs → ⊥
TreeEnd t (Err MissingField) = TellsNoKind t
TreeEnd t (Err OutOfMemory) = Unit {0}
TreeEnd t (Err (FailedParsingYaml named)) = ⊥
TreeEnd t (Err (FileIo named)) = ⊥
TreeEnd t (Err (FloatText named)) = ⊥
TreeEnd t (Err JsonKey) = ⊥
TreeEnd t (Err (NotText named)) = ⊥
TreeEnd t (Err (NoFile named)) = ⊥
