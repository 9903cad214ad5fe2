-- The pairs that a header is made of, and what the tree of one is read as.
use Rattle.std.specs.Prelude.{◌≡◌, List, [], ◌∷◌, None, Some, Result, Ok, Err}
use Rattle.snap_content.specs.Plain.{Plain, dict, Entries}
use Rattle.snap_content.specs.Tree.{TreePairs, pair}
use Rattle.snap_content.specs.View.{tree}
use Rattle.snap_content.specs.declared.content.Content.{Content}
use Rattle.snap_content.specs.declared.error.Error.{Error}
use Rattle.snap_content.specs.declared.error.Error.TheVariants.{FailedParsingYaml, UnexpectedDataType, MissingField, FileIo, FloatText, JsonKey, NotText, NoFile, OutOfMemory}
use Rattle.snap_store.specs.Fields.{kind_in, fields}
use Rattle.snap_store.specs.Views.{meta_of}
use Rattle.snap_store.specs.declared.metadata.SnapshotKind.{SnapshotKind}
use Rattle.snap_store.specs.declared.metadata.MetaData.{MetaData}

-- the trees of these pairs, in front of others
abbrev pub in_front : List (Content × Content) → TreePairs → TreePairs
in_front [] rest = rest
in_front (p ∷ ps) rest = pair (tree p.0) (tree p.1) (in_front ps rest)

-- the metadata are the fields of the header
pub record HasFields (header : Plain) (metadata : MetaData) : Type 0 where
  pub entries : Entries
  pub header_is : header ≡ dict entries
  pub kind : SnapshotKind
  pub kind_is : kind_in entries ≡ Some kind
  pub fields_are : meta_of metadata ≡ fields entries kind

-- the header is binary, without a text `extension`
pub record HasNoExtension (header : Plain) : Type 0 where
  pub entries : Entries
  pub header_is : header ≡ dict entries
  pub lacking : kind_in entries ≡ None

-- what the tree of a header is read as
abbrev pub FieldsEnd : Plain → Result MetaData Error → Type 0
FieldsEnd header (Ok metadata) = HasFields header metadata
FieldsEnd header (Err UnexpectedDataType) = (entries : Entries) → header ≡ dict entries → ⊥
FieldsEnd header (Err MissingField) = HasNoExtension header
FieldsEnd header (Err OutOfMemory) = Unit {0}
FieldsEnd header (Err (FailedParsingYaml named)) = ⊥
FieldsEnd header (Err (FileIo named)) = ⊥
FieldsEnd header (Err (FloatText named)) = ⊥
FieldsEnd header (Err JsonKey) = ⊥
FieldsEnd header (Err (NotText named)) = ⊥
FieldsEnd header (Err (NoFile named)) = ⊥
