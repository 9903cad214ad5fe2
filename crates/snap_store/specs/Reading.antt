-- What a file is read as, and when it is refused.
use Rattle.std.specs.Prelude.{◌≡◌, ◌⊎◌, ℕ, Bool, true, false, List, Option, None, Some, Result, Ok, Err, IfOk}
use Rattle.std.specs.Str.{IsUtf8, chars}
use Rattle.std.specs.FinMap.{get}
use Rattle.snap_content.specs.Plain.{Plain, dict, Entries}
use Rattle.snap_print.specs.Readable.{IsWithin}
use Rattle.snap_content.specs.declared.error.Error.{Error}
use Rattle.snap_content.specs.declared.error.Error.TheVariants.{FailedParsingYaml, UnexpectedDataType, MissingField, FileIo, FloatText, JsonKey, NotText, NoFile, OutOfMemory}
use Rattle.snap_emit.specs.Parsed.{MayBeHeaderOf}
use Rattle.snap_emit.specs.PlainRead.{plain_read, has_number_text}
use Rattle.snap_emit.specs.Readings.{IsOnly, IsOfStream}
use Rattle.snap_emit.specs.Spelled.{IsHeaderOf, KeepsNumber}
use Rattle.snap_parse.specs.Documents.{document_value}
use Rattle.snap_parse.specs.TextNodes.{AreNodesOf}
use Rattle.snap_parse_events.specs.Nodes.{Node}
use Rattle.snap_text.specs.Contents.{raw_of, kind_of}
use Rattle.snap_text.specs.declared.contents.TextSnapshotKind.TheVariants.{File}
use Rattle.snap_io.specs.Files.{Files}
use Rattle.snap_store.specs.Causes.{IsCallError}
use Rattle.snap_store.specs.FileSplit.{is_headed, header_of, body_of}
use Rattle.snap_store.specs.Fields.{kind_in, fields}
use Rattle.snap_store.specs.Meta.{Meta, legacy_meta}
use Rattle.snap_store.specs.Saving.{sidecar_path}
use Rattle.snap_store.specs.Views.{meta_in, contents_in, legacy_in, number_text_in}
use Rattle.snap_store.specs.declared.metadata.SnapshotKind.{SnapshotKind}
use Rattle.snap_store.specs.declared.metadata.SnapshotKind.TheVariants as kind
use Rattle.snap_store.specs.declared.contents.SnapshotContents.{SnapshotContents}
use Rattle.snap_store.specs.declared.contents.SnapshotContents.TheVariants as contents
use Rattle.snap_store.specs.declared.snapshot.Snapshot.{Snapshot}

-- the file is there, and is this text
pub record IsTextFile (file : Option (List ℕ)) (text : List ℕ) : Type 0 where
  pub bytes : List ℕ
  pub there : file ≡ Some bytes
  pub utf8 : IsUtf8 bytes
  pub characters : text ≡ chars bytes

-- the text is headed, and its header is printed of this tree or spells it
pub record HasHeader (text : List ℕ) (tree : Plain) : Type 0 where
  pub headed : is_headed text ≡ true
  pub within : IsWithin tree
  pub header : IsHeaderOf (header_of text) tree

-- the value of one document is this tree, and a number in it was kept as its text where one is no whole number of 128 bits
pub record GivesHeader (tree : Plain) (kept : Bool) (node : Node) : Type 0 where
  pub read : plain_read (document_value node) ≡ Some tree
  pub number : kept ≡ has_number_text (document_value node)

-- The text is headed, and its header is read as this tree: where it is printed of a tree or spells one, as that one. Whether a
-- number was kept as its text is told by the same document: of a header that is printed, or laid out by hand, by the form, and of
-- any other by the events that a parser makes of it.
pub record ReadsHeader (text : List ℕ) (tree : Plain) (kept : Bool) : Type 0 where
  pub headed : is_headed text ≡ true
  pub read : MayBeHeaderOf (header_of text) tree
  pub numbers : KeepsNumber (header_of text) kept
  pub document : IsOfStream (GivesHeader tree kept)
  pub documents : (nodes : List Node) → AreNodesOf (header_of text) nodes → IsOnly (GivesHeader tree kept) nodes

-- a text holds the body as it stands, and a payload is not in the file
abbrev pub HoldsBody : SnapshotKind → List ℕ → SnapshotContents → Type 0
HoldsBody kind.Text body (contents.Text held) = (raw_of held ≡ body) × (kind_of held ≡ File)
HoldsBody kind.Text body (contents.Binary payload) = ⊥
HoldsBody (kind.Binary extension) body (contents.Text held) = ⊥
HoldsBody (kind.Binary extension) body (contents.Binary payload) = Unit {0}

-- what stands beside the file at this path, by the kind that its header tells
abbrev pub payload_at : List ℕ → SnapshotKind → Files → Option (List ℕ)
payload_at path kind.Text m = None
payload_at path (kind.Binary extension) m = get m (sidecar_path path extension)

-- the only errors of reading it
abbrev pub IsPayloadError : List ℕ → SnapshotKind → Error → Type 0
IsPayloadError path kind.Text error = ⊥
IsPayloadError path (kind.Binary extension) error = IsCallError (sidecar_path path extension) error

-- a payload is what stands beside the file at this path, and absent where nothing does
abbrev pub HoldsBeside : List ℕ → Files → SnapshotKind → SnapshotContents → Type 0
HoldsBeside path m kind.Text held = Unit {0}
HoldsBeside path m (kind.Binary extension) held = held ≡ contents.Binary (get m (sidecar_path path extension))

-- a header that is read as a map tells its fields, and whether a number in it was kept as its text
pub record HeaderTells (text : List ℕ) (meta : Meta) (kept : Bool) : Type 0 where
  pub entries : Entries
  pub header : ReadsHeader text (dict entries) kept
  pub kind : SnapshotKind
  pub kind_is : kind_in entries ≡ Some kind
  pub meta_is : meta ≡ fields entries kind

-- without a header the lines before the first blank one tell two fields, and no number is kept
pub record LinesTell (text : List ℕ) (meta : Meta) (kept : Bool) : Type 0 where
  pub unheaded : is_headed text ≡ false
  pub meta_is : meta ≡ legacy_meta text
  pub none_kept : kept ≡ false

abbrev pub Tells : Bool → List ℕ → Meta → Bool → Type 0
Tells false text meta kept = HeaderTells text meta kept
Tells true text meta kept = LinesTell text meta kept

pub record IsNoText (file : Option (List ℕ)) : Type 0 where
  pub bytes : List ℕ
  pub there : file ≡ Some bytes
  pub broken : IsUtf8 bytes → ⊥

-- a header opens, which is printed of no tree and spells none
pub record HasUnspelledHeader (file : Option (List ℕ)) : Type 0 where
  pub text : List ℕ
  pub there : IsTextFile file text
  pub headed : is_headed text ≡ true
  pub unspelled : (tree : Plain) → HasHeader text tree → ⊥

-- the header is read as a tree that is no map
pub record HasOtherHeader (file : Option (List ℕ)) : Type 0 where
  pub text : List ℕ
  pub there : IsTextFile file text
  pub tree : Plain
  pub kept : Bool
  pub header : ReadsHeader text tree kept
  pub other : (entries : Entries) → tree ≡ dict entries → ⊥

-- the header is read as a map that says binary and names no extension
pub record LacksExtension (file : Option (List ℕ)) : Type 0 where
  pub text : List ℕ
  pub there : IsTextFile file text
  pub entries : Entries
  pub kept : Bool
  pub header : ReadsHeader text (dict entries) kept
  pub lacking : kind_in entries ≡ None

-- the file was read as this snapshot
pub record IsReadAs (file : Option (List ℕ)) (snapshot : Snapshot) : Type 0 where
  pub text : List ℕ
  pub there : IsTextFile file text
  pub metadata : Tells (legacy_in snapshot) text (meta_in snapshot) (number_text_in snapshot)
  pub contents : HoldsBody (meta_in snapshot).kind (body_of text) (contents_in snapshot)

-- the header of the file is read as a map that tells an extension, and this is the path of the payload with that extension
pub record IsBeside (path : List ℕ) (file : Option (List ℕ)) (named : List ℕ) : Type 0 where
  pub text : List ℕ
  pub there : IsTextFile file text
  pub entries : Entries
  pub kept : Bool
  pub header : ReadsHeader text (dict entries) kept
  pub extension : List ℕ
  pub told : kind_in entries ≡ Some (kind.Binary extension)
  pub named_is : named ≡ sidecar_path path extension

-- why the file at the path is refused; the store may fail at it, or at the payload beside it
abbrev pub IsRefused : List ℕ → Option (List ℕ) → Error → Type 0
IsRefused path file (NoFile named) = (named ≡ path) × (file ≡ None)
IsRefused path file (NotText named) = (named ≡ path) × IsNoText file
IsRefused path file (FailedParsingYaml named) = (named ≡ path) × HasUnspelledHeader file
IsRefused path file UnexpectedDataType = HasOtherHeader file
IsRefused path file MissingField = LacksExtension file
IsRefused path file (FileIo named) = (named ≡ path) ⊎ IsBeside path file named
IsRefused path file (FloatText named) = ⊥
IsRefused path file JsonKey = ⊥
IsRefused path file OutOfMemory = Unit {0}

abbrev pub FileEnd : List ℕ → Option (List ℕ) → Result Snapshot Error → Type 0
FileEnd path file (Ok snapshot) = IsReadAs file snapshot
FileEnd path file (Err error) = IsRefused path file error

-- the file at the path was read to this end, with the payload beside it; where the files are told both are among them
pub record IsReadFrom (path : List ℕ) (files : Option Files) (result : Result Snapshot Error) : Type 0 where
  pub file : Option (List ℕ)
  pub told : (m : Files) → files ≡ Some m → file ≡ get m path
  pub comes_to : FileEnd path file result
  pub beside : (m : Files) → files ≡ Some m → IfOk result (λ snapshot. HoldsBeside path m (meta_in snapshot).kind (contents_in snapshot))
