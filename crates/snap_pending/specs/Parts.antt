-- What the parts of a snapshot and of a record are read as.
use Rattle.std.specs.Prelude.{◌≡◌, ℕ, false, List, Option, None, Some, Result, Ok, Err, codes}
use Rattle.snap_content.specs.Plain.{Plain, Entries, text}
use Rattle.snap_content.specs.declared.error.Error.{Error}
use Rattle.snap_content.specs.declared.error.Error.TheVariants.{FailedParsingYaml, UnexpectedDataType, MissingField, FileIo, FloatText, JsonKey, NotText, NoFile, OutOfMemory}
use Rattle.snap_fields.specs.Made.{last_value, text_value}
use Rattle.snap_store.specs.Header.{HasNoExtension}
use Rattle.snap_store.specs.Meta.{Meta}
use Rattle.snap_store.specs.Views.{meta_of, module_in, name_in, meta_in, contents_in, legacy_in, number_text_in}
use Rattle.snap_store.specs.declared.contents.SnapshotContents.{SnapshotContents}
use Rattle.snap_store.specs.declared.metadata.MetaData.{MetaData}
use Rattle.snap_store.specs.declared.snapshot.Snapshot.{Snapshot}
use Rattle.snap_pending.specs.Told.{TellsMeta, HoldsText, IsNoMap, IsNoText, HeldEnd}

-- what is read where a value may stand: none where it does not
abbrev pub MetadataTold : Plain → Error → Type 0
MetadataTold value UnexpectedDataType = IsNoMap value
MetadataTold value MissingField = HasNoExtension value
MetadataTold value OutOfMemory = Unit {0}
MetadataTold value (FailedParsingYaml named) = ⊥
MetadataTold value (FileIo named) = ⊥
MetadataTold value (FloatText named) = ⊥
MetadataTold value JsonKey = ⊥
MetadataTold value (NotText named) = ⊥
MetadataTold value (NoFile named) = ⊥

abbrev pub MetadataEnd : Option Plain → Result (Option MetaData) Error → Type 0
MetadataEnd None result = result ≡ Ok None
MetadataEnd (Some value) (Ok (Some metadata)) = TellsMeta value (meta_of metadata)
MetadataEnd (Some value) (Ok None) = ⊥
MetadataEnd (Some value) (Err error) = MetadataTold value error

abbrev pub ContentsTold : Plain → Error → Type 0
ContentsTold value UnexpectedDataType = IsNoText value
ContentsTold value OutOfMemory = Unit {0}
ContentsTold value MissingField = ⊥
ContentsTold value (FailedParsingYaml named) = ⊥
ContentsTold value (FileIo named) = ⊥
ContentsTold value (FloatText named) = ⊥
ContentsTold value JsonKey = ⊥
ContentsTold value (NotText named) = ⊥
ContentsTold value (NoFile named) = ⊥

-- the value is this text, and the contents hold it
pub record TellsText (value : Plain) (contents : SnapshotContents) : Type 0 where
  pub raw : List ℕ
  pub value_is : value ≡ text raw
  pub holds : HoldsText raw contents

abbrev pub ContentsEnd : Option Plain → Result (Option SnapshotContents) Error → Type 0
ContentsEnd None result = result ≡ Ok None
ContentsEnd (Some value) (Ok (Some contents)) = TellsText value contents
ContentsEnd (Some value) (Ok None) = ⊥
ContentsEnd (Some value) (Err error) = ContentsTold value error

-- the names are those that the entries tell, under these metadata and contents
pub record IsNamed (entries : Entries) (meta : Meta) (contents : SnapshotContents) (snapshot : Snapshot) : Type 0 where
  pub module_is : text_value (last_value (codes "module_name") entries) ≡ Some (module_in snapshot)
  pub name_is : name_in snapshot ≡ text_value (last_value (codes "snapshot_name") entries)
  pub meta_is : meta_in snapshot ≡ meta
  pub contents_are : contents_in snapshot ≡ contents
  pub headed : legacy_in snapshot ≡ false
  pub no_number : number_text_in snapshot ≡ false

abbrev pub NamedEnd : Entries → Meta → SnapshotContents → Result Snapshot Error → Type 0
NamedEnd pairs meta contents (Ok snapshot) = IsNamed pairs meta contents snapshot
NamedEnd pairs meta contents (Err MissingField) = text_value (last_value (codes "module_name") pairs) ≡ None
NamedEnd pairs meta contents (Err OutOfMemory) = Unit {0}
NamedEnd pairs meta contents (Err UnexpectedDataType) = ⊥
NamedEnd pairs meta contents (Err (FailedParsingYaml named)) = ⊥
NamedEnd pairs meta contents (Err (FileIo named)) = ⊥
NamedEnd pairs meta contents (Err (FloatText named)) = ⊥
NamedEnd pairs meta contents (Err JsonKey) = ⊥
NamedEnd pairs meta contents (Err (NotText named)) = ⊥
NamedEnd pairs meta contents (Err (NoFile named)) = ⊥

-- a snapshot of a record, where it may stand
abbrev pub MayBeHeldEnd : Option Plain → Result (Option Snapshot) Error → Type 0
MayBeHeldEnd None result = result ≡ Ok None
MayBeHeldEnd (Some value) (Ok (Some snapshot)) = HeldEnd value (Ok snapshot)
MayBeHeldEnd (Some value) (Ok None) = ⊥
MayBeHeldEnd (Some value) (Err error) = HeldEnd value (Err error)
