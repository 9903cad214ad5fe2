-- What is ready before anything is looked at, and what was seen.
use Rattle.std.specs.Prelude.{◌≡◌, ◌⊎◌, Bool, true, List, [], ◌∷◌, false, Option, Some, Result, Ok, Err, IfOk}
use Rattle.std.specs.FinMap.{get}
use Rattle.snap_content.specs.List.{items_of}
use Rattle.snap_io.specs.Files.{Files}
use Rattle.snap_path.specs.Paths.{parent_of}
use Rattle.snap_text.specs.Contents.{legacy_of, MatchLatest}
use Rattle.snap_text.specs.declared.contents.TextSnapshotContents.{TextSnapshotContents}
use Rattle.snap_store.specs.declared.contents.SnapshotContents.{SnapshotContents}
use Rattle.snap_store.specs.declared.contents.SnapshotContents.TheVariants.{Text}
use Rattle.snap_store.specs.declared.snapshot.Snapshot.{Snapshot}
use Rattle.snap_store.specs.Reading.{FileEnd, HoldsBeside}
use Rattle.snap_store.specs.Views.{meta_in, module_in, name_in, contents_in, SnapshotView, snapshot_of}
use Rattle.snap_assert.specs.Assertions.{new_contents}
use Rattle.snap_assert.specs.Relations.{Relation, PassesBy}
use Rattle.snap_assert.specs.Session.{SessionView}
use Rattle.snap_assert.specs.Steps.{Asked, pending_path, step}
use Rattle.snap_assert.specs.Subjects.{body_in, kind_for}
use Rattle.snap_store.specs.Image as image
use Rattle.snap_assert_settings.specs.declared.config.Config.{Config}
use Rattle.snap_assert_place.specs.SnapshotPath.{IsFilePath}
use Rattle.snap_assert.specs.Strays.{AreStrays}
use Rattle.snap_assert.specs.Outcomes.{SaysOf, said}
use Rattle.snap_content.specs.declared.error.Error.{Error}
use Rattle.snap_content.specs.declared.error.Error.TheVariants as refusal
use Rattle.snap_assert.specs.declared.error.AssertError.{AssertError}
use Rattle.snap_assert.specs.declared.error.AssertError.TheVariants.{FileIo, OutOfMemory}
use Rattle.snap_assert.specs.declared.outcome.Warning.{Warning}
use Rattle.snap_assert.specs.declared.outcome.Warning.TheVariants.{Unreadable}
use Rattle.snap_assert.specs.declared.prepare.Prepared.{Prepared}
use Rattle.snap_assert.specs.declared.judge.Judged.{Judged}
use Rattle.snap_assert.specs.declared.look.Seen.{Seen}

-- what the new snapshot is seen as
abbrev pub new_view : Asked → SnapshotView
new_view asked = record {
  module_name = asked.module_name;
  snapshot_name = Some asked.name;
  meta = asked.meta;
  contents = new_contents asked;
  was_legacy = false;
  number_as_text = false;
}

-- the paths, and the new snapshot with what is asserted
pub record IsPrepared (asked : Asked) (prepared : Prepared) : Type 0 where
  pub path : prepared.path ≡ asked.path
  pub file_path : IsFilePath asked.path
  pub folder : prepared.folder ≡ parent_of asked.path
  pub pending : prepared.pending ≡ pending_path asked.path
  pub contents : contents_in prepared.snapshot ≡ new_contents asked
  pub body : image.body_in (new_contents asked) ≡ body_in asked.subject
  pub metadata : meta_in prepared.snapshot ≡ asked.meta
  pub module_name : module_in prepared.snapshot ≡ asked.module_name
  pub name : name_in prepared.snapshot ≡ Some asked.name
  pub view : snapshot_of prepared.snapshot ≡ new_view asked
  pub kind : asked.meta.kind ≡ kind_for asked.subject

-- both texts differ by their normal forms, and have one older form
abbrev pub OlderTexts : Bool → TextSnapshotContents → TextSnapshotContents → Type 0
OlderTexts true a b = (MatchLatest a b → ⊥) × (legacy_of a ≡ legacy_of b)
OlderTexts false a b = legacy_of a ≡ legacy_of b → MatchLatest a b

-- whether both are texts that match by their older forms alone
abbrev pub OlderPair : Bool → SnapshotContents → SnapshotContents → Type 0
OlderPair older (Text a) (Text b) = OlderTexts older a b
OlderPair older a b = older ≡ false

-- whether a pass is one of two texts that match by their older forms alone
abbrev pub OlderAs : Bool → Bool → SnapshotContents → SnapshotContents → Type 0
OlderAs passed true old new = (passed ≡ true) × OlderPair true old new
OlderAs passed false old new = passed ≡ true → OlderPair false old new

-- a pass by the relation, and what is said of it
pub record IsCompared (relation : Relation) (old new : SnapshotView) (passed : Bool) (warnings : List Warning) : Type 0 where
  pub passes : PassesBy relation (Some old) new passed
  pub older : Bool
  pub older_is : OlderAs passed older old.contents new.contents
  pub said_is : warnings ≡ said old.was_legacy old.number_as_text older

-- what a reading of the file comes to: of a snapshot a comparison, and of any other file no pass
abbrev pub JudgedBy : Relation → Result Snapshot Error → SnapshotView → Bool → List Warning → Type 0
JudgedBy relation (Ok old) new passed warnings = IsCompared relation (snapshot_of old) new passed warnings
JudgedBy relation (Err error) new passed warnings = SaysOf (Err error) passed warnings

-- what is asked passes against the files by the relation, or not, and this is said: as one reading of the file at its path comes to,
-- with the payload that stands beside it where the file says binary
pub record IsPassedBy (relation : Relation) (asked : Asked) (m : Files) (passed : Bool) (warnings : List Warning) : Type 0 where
  pub read : Result Snapshot Error
  pub end : FileEnd asked.path (get m asked.path) read
  pub beside : IfOk read (λ snapshot. HoldsBeside asked.path m (meta_in snapshot).kind (contents_in snapshot))
  pub comes_to : JudgedBy relation read (new_view asked) passed warnings

-- whether it passes by the relation, and what is to be said of the file
abbrev pub IsJudged : Relation → Asked → Files → Judged → Type 0
IsJudged relation asked m judged = IsPassedBy relation asked m judged.passed (items_of judged.warnings)

-- what was found in the files: whether the tree passes, and the strays that are to go
pub record IsSeen (relation : Relation) (asked : Asked) (m : Files) (seen : Seen) : Type 0 where
  pub judged : IsJudged relation asked m seen.judged
  pub strays : AreStrays asked.path m seen.strays.items

-- judged, and the files are those of the step
pub record IsSettled (relation : Relation) (config : Config) (asked : Asked) (m : Files) (judged : Judged) (files' : Option Files) : Type 0 where
  pub compared : IsJudged relation asked m judged
  pub stands : files' ≡ Some (step config.update config.force_update asked judged.passed m)

-- no pass, with these warnings
abbrev pub NoPass : List Warning → Result Judged AssertError → Type 0
NoPass warnings (Ok judged) = (judged.passed ≡ false) × (items_of judged.warnings ≡ warnings)
NoPass warnings (Err OutOfMemory) = Unit {0}
NoPass warnings (Err _) = ⊥

-- a missing file is no pass, a fault and out of memory are handed on, and any other refusal is a warning
abbrev pub RefusedEnd : Error → Result Judged AssertError → Type 0
RefusedEnd (refusal.NoFile path) result = NoPass [] result
RefusedEnd (refusal.FileIo path) result = result ≡ Err (FileIo path)
RefusedEnd refusal.OutOfMemory result = result ≡ Err OutOfMemory
RefusedEnd error result = NoPass (Unreadable error ∷ []) result

abbrev pub MayKeep : Result SessionView AssertError → SessionView → SessionView → Type 0
MayKeep step session session' = (session' ≡ session) ⊎ (step ≡ Ok session')

-- why nothing is left by the mode: a fault or no memory, before the block kept the contents or after; or the block refused them, and then this stands
abbrev pub KeepStops : Type 0 → Result SessionView AssertError → SessionView → SessionView → AssertError → Type 0
KeepStops stands step session session' OutOfMemory = MayKeep step session session'
KeepStops stands step session session' (FileIo path) = MayKeep step session session'
KeepStops stands step session session' error = (step ≡ Err error) × (session' ≡ session) × stands
