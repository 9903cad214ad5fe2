-- What a snapshot that was saved is read back as.
use Rattle.std.specs.Prelude.{◌≡◌, ◌<◌, ◌^◌, ℕ, List, Some, false, IfSome, option_map}
use Rattle.snap_content.specs.Plain.{plain, content_of}
use Rattle.snap_print.specs.Readable.{IsWithin}
use Rattle.snap_text.specs.Normal.{normal}
use Rattle.snap_store.specs.Meta.{Meta}
use Rattle.snap_store.specs.MetaTree.{without_nil_info}
use Rattle.snap_store.specs.Reading.{HoldsBody}
use Rattle.snap_store.specs.Views.{meta_in, contents_in, legacy_in, number_text_in}
use Rattle.snap_store.specs.declared.metadata.SnapshotKind.TheVariants.{Text, Binary}
use Rattle.snap_store.specs.declared.contents.SnapshotContents.TheVariants as contents
use Rattle.snap_store.specs.declared.snapshot.Snapshot.{Snapshot}

-- metadata of a text: the line is below 2^32, and the numbers of the info have 128 bits
pub record IsOfText (meta : Meta) : Type 0 where
  pub kind : meta.kind ≡ Text
  pub line : IfSome meta.assertion_line (λ n. n < 2 ^ 32)
  pub info : IfSome meta.info (λ t. IsWithin (plain t))

-- metadata of a binary with this extension, within the same bounds
pub record IsOfBinary (meta : Meta) (extension : List ℕ) : Type 0 where
  pub kind : meta.kind ≡ Binary extension
  pub line : IfSome meta.assertion_line (λ n. n < 2 ^ 32)
  pub info : IfSome meta.info (λ t. IsWithin (plain t))

-- the metadata that are read: the info is the tree that a reader makes of its plain form, and a nil info is none
abbrev pub read_meta : Meta → Meta
read_meta meta = without_nil_info (record meta { info = option_map (λ t. content_of (plain t)) meta.info })

-- the snapshot is one of these metadata, under a header that keeps no number as a text, and its contents are the normal form
-- of this text, as a file's
pub record IsReadBack (meta : Meta) (raw : List ℕ) (snapshot : Snapshot) : Type 0 where
  pub metadata : meta_in snapshot ≡ read_meta meta
  pub contents : HoldsBody Text (normal raw) (contents_in snapshot)
  pub headed : legacy_in snapshot ≡ false
  pub numbers : number_text_in snapshot ≡ false

-- the snapshot is one of these metadata, under such a header, and its contents are this payload
pub record IsBinaryBack (meta : Meta) (payload : List ℕ) (snapshot : Snapshot) : Type 0 where
  pub metadata : meta_in snapshot ≡ read_meta meta
  pub contents : contents_in snapshot ≡ contents.Binary (Some payload)
  pub headed : legacy_in snapshot ≡ false
  pub numbers : number_text_in snapshot ≡ false
