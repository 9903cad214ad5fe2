-- What a line of a file of records is read as, and when it is refused.
use Rattle.std.specs.Prelude.{◌≡◌, ℕ, false, List, [], Option, None, Some, Result, Ok, Err, codes}
use Rattle.snap_content.specs.Plain.{Plain, text, dict, Entries}
use Rattle.snap_content.specs.declared.error.Error.{Error}
use Rattle.snap_content.specs.declared.error.Error.TheVariants.{FailedParsingYaml, UnexpectedDataType, MissingField, FileIo, FloatText, JsonKey, NotText, NoFile, OutOfMemory}
use Rattle.snap_print.specs.Readable.{IsWithin}
use Rattle.snap_emit.specs.Parsed.{MayBeReadAs, IsUnspelled}
use Rattle.snap_parse_laws_json.specs.Bounded.{IsJsonOf}
use Rattle.snap_fields.specs.Made.{last_value, last_filled, text_value, line_value}
use Rattle.snap_store.specs.Fields.{kind_in, fields}
use Rattle.snap_store.specs.Header.{HasNoExtension}
use Rattle.snap_store.specs.Meta.{Meta}
use Rattle.snap_store.specs.declared.contents.SnapshotContents.{SnapshotContents}
use Rattle.snap_store.specs.declared.contents.SnapshotContents.TheVariants.{Text, Binary}
use Rattle.snap_text.specs.Contents.{raw_of, kind_of}
use Rattle.snap_text.specs.declared.contents.TextSnapshotKind.TheVariants.{Inline}
use Rattle.snap_store.specs.declared.snapshot.Snapshot.{Snapshot}
use Rattle.snap_store.specs.Views.{SnapshotView, snapshot_of}
use Rattle.snap_pending.specs.Pending.{Pending, pending_of}
use Rattle.snap_pending.specs.declared.pending.PendingInlineSnapshot.{PendingInlineSnapshot}

-- the text stands there as it is, for the text of a literal
abbrev pub HoldsText : List ℕ → SnapshotContents → Type 0
HoldsText raw (Text held) = (raw_of held ≡ raw) × (kind_of held ≡ Inline)
HoldsText raw (Binary payload) = ⊥

-- metadata are told as by a header
pub record TellsMeta (tree : Plain) (meta : Meta) : Type 0 where
  pub entries : Entries
  pub tree_is : tree ≡ dict entries
  pub kind_is : kind_in entries ≡ Some meta.kind
  pub fields_are : meta ≡ fields entries meta.kind

-- a snapshot is told by its fields; a name of another type is as if it were not there. It was read from no file without a header,
-- and under no header that keeps a number as its text.
pub record TellsHeld (tree : Plain) (held : SnapshotView) : Type 0 where
  pub entries : Entries
  pub tree_is : tree ≡ dict entries
  pub module_is : text_value (last_value (codes "module_name") entries) ≡ Some held.module_name
  pub name_is : held.snapshot_name ≡ text_value (last_value (codes "snapshot_name") entries)
  pub metadata : Plain
  pub metadata_is : last_value (codes "metadata") entries ≡ Some metadata
  pub meta_is : TellsMeta metadata held.meta
  pub raw : List ℕ
  pub raw_is : last_value (codes "snapshot") entries ≡ Some (text raw)
  pub contents_are : HoldsText raw held.contents
  pub headed : held.was_legacy ≡ false
  pub no_number : held.number_as_text ≡ false

-- where a tree stands it tells the snapshot; else there is none
abbrev pub MayTell : Option Plain → Option SnapshotView → Type 0
MayTell None None = Unit {0}
MayTell (Some tree) (Some held) = TellsHeld tree held
MayTell None (Some held) = ⊥
MayTell (Some tree) None = ⊥

-- a record is told by its fields; a nil snapshot is none
pub record TellsRecord (tree : Plain) (pending : Pending) : Type 0 where
  pub entries : Entries
  pub tree_is : tree ≡ dict entries
  pub run_is : text_value (last_value (codes "run_id") entries) ≡ Some pending.run_id
  pub line_is : line_value (last_value (codes "line") entries) ≡ Some pending.line
  pub new_is : MayTell (last_filled (codes "new") entries) pending.new_snapshot
  pub old_is : MayTell (last_filled (codes "old") entries) pending.old_snapshot

-- the tree is no map
abbrev pub IsNoMap : Plain → Type 0
IsNoMap tree = (entries : Entries) → tree ≡ dict entries → ⊥

-- a tree that is no text
abbrev pub IsNoText : Plain → Type 0
IsNoText tree = text_value (Some tree) ≡ None

-- a snapshot of another type: it is no map, or its metadata are none, or its text is none
pub data IsOtherHeld (tree : Plain) : Type 0 where
  no_map : IsNoMap tree → IsOtherHeld tree
  no_metadata : (entries : Entries) (metadata : Plain) → tree ≡ dict entries → last_value (codes "metadata") entries ≡ Some metadata
      → IsNoMap metadata → IsOtherHeld tree
  no_text : (entries : Entries) (value : Plain) → tree ≡ dict entries → last_value (codes "snapshot") entries ≡ Some value
      → IsNoText value → IsOtherHeld tree

-- a snapshot without a module, metadata or a text, or whose metadata are a binary without an extension
pub data LacksInHeld (tree : Plain) : Type 0 where
  lacks_module : (entries : Entries) → tree ≡ dict entries → text_value (last_value (codes "module_name") entries) ≡ None → LacksInHeld tree
  lacks_metadata : (entries : Entries) → tree ≡ dict entries → last_value (codes "metadata") entries ≡ None → LacksInHeld tree
  lacks_extension : (entries : Entries) (value : Plain) → tree ≡ dict entries → last_value (codes "metadata") entries ≡ Some value
      → HasNoExtension value → LacksInHeld tree
  lacks_text : (entries : Entries) → tree ≡ dict entries → last_value (codes "snapshot") entries ≡ None → LacksInHeld tree

-- why a tree is no snapshot
abbrev pub HeldRefused : Plain → Error → Type 0
HeldRefused tree UnexpectedDataType = IsOtherHeld tree
HeldRefused tree MissingField = LacksInHeld tree
HeldRefused tree OutOfMemory = Unit {0}
HeldRefused tree (FailedParsingYaml named) = ⊥
HeldRefused tree (FileIo named) = ⊥
HeldRefused tree (FloatText named) = ⊥
HeldRefused tree JsonKey = ⊥
HeldRefused tree (NotText named) = ⊥
HeldRefused tree (NoFile named) = ⊥

-- what a tree is read as, where it may be a snapshot
abbrev pub HeldEnd : Plain → Result Snapshot Error → Type 0
HeldEnd tree (Ok snapshot) = TellsHeld tree (snapshot_of snapshot)
HeldEnd tree (Err error) = HeldRefused tree error

-- a tree that is no map, or one of whose snapshots is of another type
pub data IsOtherRecord (tree : Plain) : Type 0 where
  is_no_map : IsNoMap tree → IsOtherRecord tree
  other_new : (entries : Entries) (value : Plain) → tree ≡ dict entries → last_filled (codes "new") entries ≡ Some value
      → IsOtherHeld value → IsOtherRecord tree
  other_old : (entries : Entries) (value : Plain) → tree ≡ dict entries → last_filled (codes "old") entries ≡ Some value
      → IsOtherHeld value → IsOtherRecord tree

-- a record without a run or a line, or one of whose snapshots lacks a field
pub data LacksInRecord (tree : Plain) : Type 0 where
  lacks_run : (entries : Entries) → tree ≡ dict entries → text_value (last_value (codes "run_id") entries) ≡ None → LacksInRecord tree
  lacks_line : (entries : Entries) → tree ≡ dict entries → line_value (last_value (codes "line") entries) ≡ None → LacksInRecord tree
  lacks_in_new : (entries : Entries) (value : Plain) → tree ≡ dict entries → last_filled (codes "new") entries ≡ Some value
      → LacksInHeld value → LacksInRecord tree
  lacks_in_old : (entries : Entries) (value : Plain) → tree ≡ dict entries → last_filled (codes "old") entries ≡ Some value
      → LacksInHeld value → LacksInRecord tree

-- why a tree is no record
abbrev pub RecordRefused : Plain → Error → Type 0
RecordRefused tree UnexpectedDataType = IsOtherRecord tree
RecordRefused tree MissingField = LacksInRecord tree
RecordRefused tree OutOfMemory = Unit {0}
RecordRefused tree (FailedParsingYaml named) = ⊥
RecordRefused tree (FileIo named) = ⊥
RecordRefused tree (FloatText named) = ⊥
RecordRefused tree JsonKey = ⊥
RecordRefused tree (NotText named) = ⊥
RecordRefused tree (NoFile named) = ⊥

-- what a tree is read as, where it may be a record
abbrev pub RecordEnd : Plain → Result PendingInlineSnapshot Error → Type 0
RecordEnd tree (Ok pending) = TellsRecord tree (pending_of pending)
RecordEnd tree (Err error) = RecordRefused tree error

-- the line may be read as this tree: where it is the JSON text of a bounded tree, that is this tree
abbrev pub MayBeJsonOf : List ℕ → Plain → Type 0
MayBeJsonOf line plain = (t : Plain) → IsWithin t → IsJsonOf t line → plain ≡ t

-- no bounded tree has this line as its JSON text
abbrev pub IsNoJson : List ℕ → Type 0
IsNoJson line = (t : Plain) → IsWithin t → IsJsonOf t line → ⊥

-- a line is read as this record: it is not empty, and a tree that it may be read as tells the record
pub record LineTells (line : List ℕ) (pending : Pending) : Type 0 where
  pub filled : line ≡ [] → ⊥
  pub tree : Plain
  pub read : MayBeReadAs line tree
  pub json : MayBeJsonOf line tree
  pub tells : TellsRecord tree pending

-- the line is not empty, and a tree that it may be read as is no record
pub record IsReadAsNone (line : List ℕ) (error : Error) : Type 0 where
  pub filled : line ≡ [] → ⊥
  pub tree : Plain
  pub read : MayBeReadAs line tree
  pub json : MayBeJsonOf line tree
  pub refused : RecordRefused tree error

-- a number that is no whole number refuses a line as what is no YAML does
abbrev pub parsing_refusal : Error → Error
parsing_refusal (FloatText named) = FailedParsingYaml named
parsing_refusal error = error

-- why a line is refused
abbrev pub LineRefused : List ℕ → List ℕ → Error → Type 0
LineRefused path line (FailedParsingYaml named) = (named ≡ path) × IsUnspelled line × IsNoJson line
LineRefused path line UnexpectedDataType = IsReadAsNone line UnexpectedDataType
LineRefused path line MissingField = IsReadAsNone line MissingField
LineRefused path line OutOfMemory = Unit {0}
LineRefused path line (FileIo named) = ⊥
LineRefused path line (FloatText named) = ⊥
LineRefused path line JsonKey = ⊥
LineRefused path line (NotText named) = ⊥
LineRefused path line (NoFile named) = ⊥

abbrev pub LineEnd : List ℕ → List ℕ → Result PendingInlineSnapshot Error → Type 0
LineEnd path line (Ok pending) = LineTells line (pending_of pending)
LineEnd path line (Err error) = LineRefused path line error
