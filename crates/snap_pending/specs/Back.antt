-- What a saved record is read back as.
use Rattle.std.specs.Prelude.{◌≡◌, ◌<◌, ◌^◌, ℕ, List, [], ◌∷◌, Option, None, Some, option_map, IfSome, is_some, true, false}
use Rattle.snap_content.specs.Plain.{content_of}
use Rattle.snap_print.specs.Readable.{IsWithin}
use Rattle.snap_parse_laws_json.specs.Bounded.{is_bounded}
use Rattle.snap_json.specs.JsonPlain.{json_plain}
use Rattle.snap_store.specs.Meta.{Meta}
use Rattle.snap_store.specs.MetaTree.{without_nil_info}
use Rattle.snap_store.specs.Views.{text_in, SnapshotView}
use Rattle.snap_text.specs.Normal.{normal}
use Rattle.snap_pending.specs.Pending.{Pending}
use Rattle.snap_pending.specs.Record.{record_of, is_refused}
use Rattle.snap_pending.specs.Told.{HoldsText}

-- the info is what JSON keeps of it
abbrev pub in_json : Meta → Meta
in_json meta = record meta { info = option_map (λ info. content_of (json_plain info)) meta.info }

-- a nil info is none
abbrev pub meta_back : Meta → Meta
meta_back meta = without_nil_info (in_json meta)

-- a snapshot of a text is read back with its names, these metadata, and the normal text as that of a literal; whether it was
-- read from a file without a header, or under one that keeps a number as its text, is not kept
pub record IsHeldBack (held back : SnapshotView) : Type 0 where
  pub module_is : back.module_name ≡ held.module_name
  pub name_is : back.snapshot_name ≡ held.snapshot_name
  pub meta_is : back.meta ≡ meta_back held.meta
  pub raw : List ℕ
  pub text_is : text_in held.contents ≡ Some raw
  pub contents_are : HoldsText (normal raw) back.contents
  pub headed : back.was_legacy ≡ false
  pub no_number : back.number_as_text ≡ false

abbrev pub MayBeBack : Option SnapshotView → Option SnapshotView → Type 0
MayBeBack None None = Unit {0}
MayBeBack (Some held) (Some back) = IsHeldBack held back
MayBeBack None (Some back) = ⊥
MayBeBack (Some held) None = ⊥

-- a record as it is read back: the same run and line, and its snapshots where it has them
pub record IsBack (pending back : Pending) : Type 0 where
  pub run_is : back.run_id ≡ pending.run_id
  pub line_is : back.line ≡ pending.line
  pub new_is : MayBeBack pending.new_snapshot back.new_snapshot
  pub old_is : MayBeBack pending.old_snapshot back.old_snapshot

-- the line of the metadata has 32 bits
abbrev pub HasShortLine : SnapshotView → Type 0
HasShortLine held = IfSome held.meta.assertion_line (λ line. line < 2 ^ 32)

-- all lines of the record have 32 bits
pub record HasShortLines (pending : Pending) : Type 0 where
  pub own : pending.line < 2 ^ 32
  pub in_new : IfSome pending.new_snapshot HasShortLine
  pub in_old : IfSome pending.old_snapshot HasShortLine

-- neither snapshot is a payload
abbrev pub HasText : SnapshotView → Type 0
HasText held = is_some (text_in held.contents) ≡ true

-- neither snapshot of a record is a payload
pub record HasTexts (pending : Pending) : Type 0 where
  pub in_new : IfSome pending.new_snapshot HasText
  pub in_old : IfSome pending.old_snapshot HasText

-- JSON has the record, in bounds that a scanner accepts, with numbers of 128 bits and lines of 32
pub record IsReadable (pending : Pending) : Type 0 where
  pub accepted : is_refused pending ≡ false
  pub bounded : is_bounded (json_plain (record_of pending)) ≡ true
  pub within : IsWithin (json_plain (record_of pending))
  pub lines : HasShortLines pending

-- records one by one
abbrev pub AreBack : List Pending → List Pending → Type 0
AreBack [] [] = Unit {0}
AreBack (p ∷ ps) (b ∷ bs) = IsBack p b × AreBack ps bs
AreBack [] (b ∷ bs) = ⊥
AreBack (p ∷ ps) [] = ⊥
