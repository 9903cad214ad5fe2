-- The parts of a snapshot and of a record, exit by exit.
use Rattle.snap_pending.proofs.Prelude.{◌≡◌, ℕ, List, Option, None, Some, Result, Ok, Err, refl, ap, sym, subst, codes, option_map, Plain, Entries, text, dict, Error, FailedParsingYaml, UnexpectedDataType, MissingField, FileIo, FloatText, JsonKey, NotText, NoFile, OutOfMemory, last_value, Meta, meta_of, SnapshotContents, SnapshotView, snapshot_of, TellsMeta, HoldsText, HeldRefused, HeldEnd, IsOtherHeld, LacksInHeld, MayTell, IsOtherRecord, LacksInRecord, RecordRefused}
use Rattle.snap_store.specs.declared.metadata.MetaData.{MetaData}
use Rattle.snap_store.specs.declared.snapshot.Snapshot.{Snapshot}
use Rattle.snap_pending.specs.Told.IsOtherHeld.{no_metadata, no_text}
use Rattle.snap_pending.specs.Told.LacksInHeld.{lacks_module, lacks_extension}
use Rattle.snap_pending.specs.Parts.{MetadataEnd, ContentsEnd, NamedEnd, MayBeHeldEnd}

-- a snapshot that is refused by one of its parts

pub metadata_refused : (entries : Entries) (o : Option Plain) (e : Error) → last_value (codes "metadata") entries ≡ o → MetadataEnd o (Err e) → HeldRefused (dict entries) e
metadata_refused pairs None e is h = absurd (cc)
metadata_refused pairs (Some value) UnexpectedDataType is h = no_metadata pairs value refl is h
metadata_refused pairs (Some value) MissingField is h = lacks_extension pairs value refl is h
metadata_refused pairs (Some value) OutOfMemory is h = tt
metadata_refused pairs (Some value) (FailedParsingYaml named) is h = absurd h
metadata_refused pairs (Some value) (FileIo named) is h = absurd h
metadata_refused pairs (Some value) (FloatText named) is h = absurd h
metadata_refused pairs (Some value) JsonKey is h = absurd h
metadata_refused pairs (Some value) (NotText named) is h = absurd h
metadata_refused pairs (Some value) (NoFile named) is h = absurd h

pub contents_refused : (entries : Entries) (o : Option Plain) (e : Error) → last_value (codes "snapshot") entries ≡ o → ContentsEnd o (Err e) → HeldRefused (dict entries) e
contents_refused pairs None e is h = absurd (cc)
contents_refused pairs (Some value) UnexpectedDataType is h = no_text pairs value refl is h
contents_refused pairs (Some value) OutOfMemory is h = tt
contents_refused pairs (Some value) MissingField is h = absurd h
contents_refused pairs (Some value) (FailedParsingYaml named) is h = absurd h
contents_refused pairs (Some value) (FileIo named) is h = absurd h
contents_refused pairs (Some value) (FloatText named) is h = absurd h
contents_refused pairs (Some value) JsonKey is h = absurd h
contents_refused pairs (Some value) (NotText named) is h = absurd h
contents_refused pairs (Some value) (NoFile named) is h = absurd h

-- nothing was read where nothing stands
pub no_metadata_there : (o : Option Plain) (m : Option MetaData) → m ≡ None → MetadataEnd o (Ok m) → o ≡ None
no_metadata_there None m none h = refl
no_metadata_there (Some value) None none h = absurd h
no_metadata_there (Some value) (Some metadata) none h = absurd (cc)

pub no_contents_there : (o : Option Plain) (m : Option SnapshotContents) → m ≡ None → ContentsEnd o (Ok m) → o ≡ None
no_contents_there None m none h = refl
no_contents_there (Some value) None none h = absurd h
no_contents_there (Some value) (Some contents) none h = absurd (cc)

-- the metadata and the contents that were read

pub record HasMetadata (o : Option Plain) (meta : Meta) : Type 0 where
  pub value : Plain
  pub is : o ≡ Some value
  pub tells : TellsMeta value meta

metadata_held : (o : Option Plain) (m : MetaData) → MetadataEnd o (Ok (Some m)) → HasMetadata o (meta_of m)
metadata_held None m h = absurd (cc)
metadata_held (Some value) m h = record { value = value; is = refl; tells = h }

pub metadata_there : (o : Option Plain) (t : Option MetaData) (m : MetaData) → t ≡ Some m → MetadataEnd o (Ok t) → HasMetadata o (meta_of m)
metadata_there o t m is h = let P : Option MetaData → Type 0 = λ x. MetadataEnd o (Ok x) in metadata_held o m (subst P is h)

pub record HasContents (o : Option Plain) (contents : SnapshotContents) : Type 0 where
  pub raw : List ℕ
  pub is : o ≡ Some (text raw)
  pub holds : HoldsText raw contents

contents_held : (o : Option Plain) (held : SnapshotContents) → ContentsEnd o (Ok (Some held)) → HasContents o held
contents_held None held h = absurd (cc)
contents_held (Some value) held h = record { raw = h.raw; is = ap Some h.value_is; holds = h.holds }

pub contents_there : (o : Option Plain) (t : Option SnapshotContents) (held : SnapshotContents) → t ≡ Some held → ContentsEnd o (Ok t) → HasContents o held
contents_there o t held is h = let P : Option SnapshotContents → Type 0 = λ x. ContentsEnd o (Ok x) in contents_held o held (subst P is h)

-- a snapshot with its parts
pub named_end : (entries : Entries) (meta : Meta) (held : SnapshotContents) (result : Result Snapshot Error)
    → HasMetadata (last_value (codes "metadata") entries) meta → HasContents (last_value (codes "snapshot") entries) held
    → NamedEnd entries meta held result → HeldEnd (dict entries) result
named_end pairs meta held (Ok s) md ct h =
    let P : Meta → Type 0 = λ m. TellsMeta md.value m in
    let Q : SnapshotContents → Type 0 = λ c. HoldsText ct.raw c in
    record {
      entries = pairs;
      tree_is = refl;
      module_is = h.module_is;
      name_is = h.name_is;
      metadata = md.value;
      metadata_is = md.is;
      meta_is = subst P (sym h.meta_is) md.tells;
      raw = ct.raw;
      raw_is = ct.is;
      contents_are = subst Q (sym h.contents_are) ct.holds;
      headed = h.headed;
      no_number = h.no_number;
    }
named_end pairs meta held (Err MissingField) md ct h = lacks_module pairs refl h
named_end pairs meta held (Err OutOfMemory) md ct h = tt
named_end pairs meta held (Err UnexpectedDataType) md ct h = absurd h
named_end pairs meta held (Err (FailedParsingYaml named)) md ct h = absurd h
named_end pairs meta held (Err (FileIo named)) md ct h = absurd h
named_end pairs meta held (Err (FloatText named)) md ct h = absurd h
named_end pairs meta held (Err JsonKey) md ct h = absurd h
named_end pairs meta held (Err (NotText named)) md ct h = absurd h
named_end pairs meta held (Err (NoFile named)) md ct h = absurd h

-- a record that is refused by one of its snapshots
pub held_refused : (entries : Entries) (o : Option Plain) (e : Error) → MayBeHeldEnd o (Err e)
    → ((value : Plain) → o ≡ Some value → IsOtherHeld value → IsOtherRecord (dict entries))
    → ((value : Plain) → o ≡ Some value → LacksInHeld value → LacksInRecord (dict entries)) → RecordRefused (dict entries) e
held_refused pairs None e h other lacks = absurd (cc)
held_refused pairs (Some value) UnexpectedDataType h other lacks = other value refl h
held_refused pairs (Some value) MissingField h other lacks = lacks value refl h
held_refused pairs (Some value) OutOfMemory h other lacks = tt
held_refused pairs (Some value) (FailedParsingYaml named) h other lacks = absurd h
held_refused pairs (Some value) (FileIo named) h other lacks = absurd h
held_refused pairs (Some value) (FloatText named) h other lacks = absurd h
held_refused pairs (Some value) JsonKey h other lacks = absurd h
held_refused pairs (Some value) (NotText named) h other lacks = absurd h
held_refused pairs (Some value) (NoFile named) h other lacks = absurd h

held_told : (o : Option Plain) (held : Option Snapshot) → MayBeHeldEnd o (Ok held) → MayTell o (option_map snapshot_of held)
held_told None None h = tt
held_told None (Some snapshot) h = absurd (cc)
held_told (Some value) None h = absurd h
held_told (Some value) (Some snapshot) h = h

pub may_tell : (o : Option Plain) (held : Option Snapshot) (shown : Option SnapshotView) → shown ≡ option_map snapshot_of held → MayBeHeldEnd o (Ok held) → MayTell o shown
may_tell o held shown same h = let P : Option SnapshotView → Type 0 = λ s. MayTell o s in subst P (sym same) (held_told o held h)
