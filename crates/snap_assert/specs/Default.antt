-- What the comparator says that programs use.
use Rattle.std.specs.Prelude.{◌≡◌, ℕ, Bool, List, Option, None, Some}
use Rattle.snap_content.specs.Plain.{Plain, plain, null}
use Rattle.snap_content.specs.Tree.{Tree}
use Rattle.snap_print.specs.Blocks.{off}
use Rattle.snap_print.specs.Lines.{text_of}
use Rattle.snap_print.specs.Readable.{IsWithin}
use Rattle.snap_text.specs.Contents.{kind_of, MatchLatest}
use Rattle.snap_text.specs.declared.contents.TextSnapshotKind.{TextSnapshotKind}
use Rattle.snap_text.specs.declared.contents.TextSnapshotKind.TheVariants.{Inline, File}
use Rattle.snap_store.specs.Agreement.{Agree}
use Rattle.snap_store.specs.Meta.{Meta}
use Rattle.snap_store.specs.Views.{SnapshotView}
use Rattle.snap_store.specs.declared.contents.SnapshotContents.{SnapshotContents}
use Rattle.snap_store.specs.declared.contents.SnapshotContents.TheVariants.{Text}
use Rattle.snap_assert.specs.Relations.{Relation, asked_relation}

-- both contents agree, and both are of one kind
abbrev pub SnapshotsAgree : SnapshotView → SnapshotView → Type 0
SnapshotsAgree old new = Agree old.contents new.contents × (old.meta.kind ≡ new.meta.kind)

-- a plain tree, but for null
abbrev pub filled : Plain → Option Plain
filled null = None
filled p = Some p

-- an info is seen as its plain form, and one of which that is null as none
abbrev pub plain_info : Option Tree → Option Plain
plain_info None = None
plain_info (Some info) = filled (plain info)

-- the same fields but for the line, an info by its plain form
pub record SameMeta (old new : Meta) : Type 0 where
  pub source : old.source ≡ new.source
  pub description : old.description ≡ new.description
  pub expression : old.expression ≡ new.expression
  pub info : plain_info old.info ≡ plain_info new.info
  pub input_file : old.input_file ≡ new.input_file
  pub kind : old.kind ≡ new.kind

-- where the old text is that of a file the metadata are the same too
abbrev pub MetaCounts : TextSnapshotKind → Meta → Meta → Type 0
MetaCounts File old new = SameMeta old new
MetaCounts Inline old new = Unit {0}

-- two texts have one normal form, each by its kind, and the metadata count by that of the old one
abbrev pub MatchFully : SnapshotContents → SnapshotContents → Meta → Meta → Type 0
MatchFully (Text a) (Text b) old new = MatchLatest a b × MetaCounts (kind_of a) old new
MatchFully a b old new = Agree a b × (old.kind ≡ new.kind)

-- two texts match fully; others as without a full match
abbrev pub SnapshotsAgreeFully : SnapshotView → SnapshotView → Type 0
SnapshotsAgreeFully old new = MatchFully old.contents new.contents old.meta new.meta

-- what that comparator tells, fully where that is asked
abbrev pub default_relation : Bool → Relation
default_relation fully = asked_relation SnapshotsAgree SnapshotsAgreeFully fully

-- the same source, expression, input file and kind
abbrev pub SameNames : Meta → Meta → Type 0
SameNames old new = (old.source ≡ new.source) × ((old.expression ≡ new.expression) × ((old.input_file ≡ new.input_file) × (old.kind ≡ new.kind)))

-- the text is that of a plain tree which is there, whose numbers have 128 bits
abbrev pub PrintsInfo : Option Plain → Option (List ℕ) → Type 0
PrintsInfo None text = text ≡ None
PrintsInfo (Some p) text = (text ≡ Some (text_of off p)) × IsWithin p
