-- What an assertion of a literal answers.
use Rattle.std.specs.Prelude.{◌≡◌, ◌&&◌, ℕ, Bool, true, false, not, List, ◌++◌, Option, Some, Ok}
use Rattle.snap_content.specs.List.{items_of}
use Rattle.snap_content.specs.declared.error.Error.{Error}
use Rattle.snap_content.specs.declared.error.Error.TheVariants as file
use Rattle.snap_io.specs.Files.{Files, SameBut}
use Rattle.snap_io.specs.Outside.{Given, Becomes}
use Rattle.snap_text_literals.specs.OfLiteral.{is_open}
use Rattle.snap_pending.specs.Record.{is_refused}
use Rattle.snap_store.specs.Views.{snapshot_of}
use Rattle.snap_store.specs.declared.contents.SnapshotContents.TheVariants.{Text}
use Rattle.snap_assert_place.specs.Place.{PlaceView}
use Rattle.snap_assert_place.specs.SnapshotPath.{records_path}
use Rattle.snap_assert_settings.specs.declared.config.Config.{Config}
use Rattle.snap_assert.specs.LiteralCourses.{LiteralMayRemember, IsLiteralRefusal, literal_course_of}
use Rattle.snap_assert.specs.LiteralNames.{LiteralNamed}
use Rattle.snap_assert.specs.Literals.{LiteralAssertion, old_text, new_text, old_literal, new_literal, literal_record, has_record, leaves_out, literal_step, literal_verdict}
use Rattle.snap_assert.specs.Outcomes.{said_if}
use Rattle.snap_assert.specs.Prepared.{OlderAs}
use Rattle.snap_assert.specs.Relations.{Relation, PassesBy}
use Rattle.snap_assert.specs.Session.{SessionView}
use Rattle.snap_assert.specs.Steps.{is_failure}
use Rattle.snap_assert.specs.declared.error.AssertError.{AssertError}
use Rattle.snap_assert.specs.declared.error.AssertError.TheVariants.{OutOfMemory, FileIo, JsonKey}
use Rattle.snap_assert.specs.declared.judge.Judged.{Judged}
use Rattle.snap_assert.specs.declared.literals.Literals.{Literals}
use Rattle.snap_assert.specs.declared.outcome.Outcome.{Outcome}
use Rattle.snap_assert.specs.declared.outcome.Warning.{Warning}
use Rattle.snap_assert.specs.declared.outcome.Warning.TheVariants.{LegacyContents, OpenLiteral, InlineInDoctest}

-- what is said: that it passes by the older form alone, that the first line of the literal is not empty, and that a doctest leaves the record out
abbrev pub literal_said : Bool → Bool → Bool → List Warning
literal_said older opens left_out = said_if older LegacyContents ++ said_if opens OpenLiteral ++ said_if left_out InlineInDoctest

-- each of them is said exactly where it holds
pub record LiteralSays (config : Config) (a : LiteralAssertion) (passed : Bool) (warnings : List Warning) : Type 0 where
  pub older : Bool
  pub older_is : OlderAs passed older (Text (old_text a)) (Text (new_text a))
  pub said_is : warnings ≡ literal_said older (is_open a.reference) (leaves_out config a.place passed)

-- what is left, and answered, where it passed or didn't: the verdict by the mode, and the files of the step where they are told. A record that
-- is written is one that JSON takes.
pub record IsLiteralLeft (config : Config) (a : LiteralAssertion) (name : Option (List ℕ)) (passed : Bool) (outcome : Outcome) (files files' : Option Files) : Type 0 where
  pub verdict : outcome.verdict ≡ literal_verdict config.update passed
  pub path : outcome.path ≡ records_path a.place
  pub fails : outcome.fails ≡ (is_failure outcome.verdict && not config.force_pass)
  pub printed : has_record config a.place passed ≡ true → is_refused (literal_record config.run_id a name) ≡ false
  pub stands : Becomes files files' (literal_step config a name passed)

-- what is asked of the literal is answered under the name that was taken: by a pass exactly where the relation holds
pub record IsLiteralDone (relation : Relation) (config : Config) (a : LiteralAssertion) (name : Option (List ℕ)) (outcome : Outcome) (files files' : Option Files) : Type 0 where
  pub passed : Bool
  pub passes : PassesBy relation (Some (old_literal a)) (new_literal a name) passed
  pub warned : LiteralSays config a passed (items_of outcome.warnings)
  pub left : IsLiteralLeft config a name passed outcome files files'

-- a literal is answered: whatever the files are, it goes on as its course does, and what is remembered is that of the course
pub record LiteralAnswered (relation : Relation) (config : Config) (a : LiteralAssertion) (outcome : Outcome) (files files' : Option Files) (session session' : SessionView) : Type 0 where
  pub course : LiteralNamed
  pub course_is : literal_course_of a session ≡ Ok course
  pub remembered : session' ≡ course.session
  pub done : IsLiteralDone relation config a course.name outcome files files'

-- a record is to be written that JSON refuses, and nothing is written
pub record IsRecordRefused (config : Config) (a : LiteralAssertion) (name : Option (List ℕ)) (passed : Bool) (files files' : Option Files) : Type 0 where
  pub due : has_record config a.place passed ≡ true
  pub refused : is_refused (literal_record config.run_id a name) ≡ true
  pub same : files' ≡ files

-- the same by a pass exactly where the relation holds
pub record IsUnprintable (relation : Relation) (config : Config) (a : LiteralAssertion) (name : Option (List ℕ)) (files files' : Option Files) : Type 0 where
  pub passed : Bool
  pub passes : PassesBy relation (Some (old_literal a)) (new_literal a name) passed
  pub record_is : IsRecordRefused config a name passed files files'

-- the same, when the literal has gone its course
pub record LiteralUnprintable (relation : Relation) (config : Config) (a : LiteralAssertion) (files files' : Option Files) (session session' : SessionView) : Type 0 where
  pub course : LiteralNamed
  pub course_is : literal_course_of a session ≡ Ok course
  pub remembered : session' ≡ course.session
  pub unprintable : IsUnprintable relation config a course.name files files'

-- a literal is refused by what is remembered: whatever the files are, and none of them is changed
pub record LiteralRefusedAs (a : LiteralAssertion) (error : AssertError) (files files' : Option Files) (session session' : SessionView) : Type 0 where
  pub refusal : IsLiteralRefusal a error session session'
  pub same : files' ≡ files

-- why an assertion of a literal comes to no answer: a fault of the store, no memory, a record that JSON refuses, or what is remembered
abbrev pub IsLiteralStopped : Relation → Config → LiteralAssertion → AssertError → Option Files → Option Files → SessionView → SessionView → Type 0
IsLiteralStopped relation config a OutOfMemory files files' session session' = LiteralMayRemember a session session'
IsLiteralStopped relation config a (FileIo path) files files' session session' = LiteralMayRemember a session session'
IsLiteralStopped relation config a JsonKey files files' session session' = LiteralUnprintable relation config a files files' session session'
IsLiteralStopped relation config a error files files' session session' = LiteralRefusedAs a error files files' session session'

-- at this place, with this reference: the path of the records, and both snapshots, the new one under this name
pub record AreLiterals (a : LiteralAssertion) (place : PlaceView) (reference : List ℕ) (name : Option (List ℕ)) (literals : Literals) : Type 0 where
  pub stands : a.place ≡ place
  pub reads : a.reference ≡ reference
  pub path : literals.path ≡ records_path a.place
  pub old : snapshot_of literals.old ≡ old_literal a
  pub new : snapshot_of literals.new ≡ new_literal a name

-- a pass exactly where the relation holds, and what is to be said
pub record IsLiteralJudged (relation : Relation) (config : Config) (a : LiteralAssertion) (name : Option (List ℕ)) (judged : Judged) : Type 0 where
  pub passes : PassesBy relation (Some (old_literal a)) (new_literal a name) judged.passed
  pub warned : LiteralSays config a judged.passed (items_of judged.warnings)

-- why the work on the records stops: a fault or no memory, or the record is one that JSON refuses, and then nothing is changed
abbrev pub RecordStops : Config → LiteralAssertion → Option (List ℕ) → Bool → Option Files → Option Files → AssertError → Type 0
RecordStops config a name passed files files' OutOfMemory = Unit {0}
RecordStops config a name passed files files' (FileIo path) = Unit {0}
RecordStops config a name passed files files' JsonKey = IsRecordRefused config a name passed files files'
RecordStops config a name passed files files' _ = ⊥

-- the same of comparing and of the records
abbrev pub LiteralStops : Relation → Config → LiteralAssertion → Option (List ℕ) → Option Files → Option Files → AssertError → Type 0
LiteralStops relation config a name files files' OutOfMemory = Unit {0}
LiteralStops relation config a name files files' (FileIo path) = Unit {0}
LiteralStops relation config a name files files' JsonKey = IsUnprintable relation config a name files files'
LiteralStops relation config a name files files' _ = ⊥

-- what a record that is not printed comes to: JSON refuses a key of it, or memory was out
abbrev pub unprinted : Error → AssertError
unprinted file.JsonKey = JsonKey
unprinted _ = OutOfMemory

-- no line is printed: JSON refuses the record of one that is to be written, or memory was out
abbrev pub IsNotDue : Bool → Bool → AssertError → Type 0
IsNotDue due refused OutOfMemory = Unit {0}
IsNotDue due refused JsonKey = (due ≡ true) × (refused ≡ true)
IsNotDue due refused _ = ⊥

-- no file changes but the one at the path
abbrev pub ChangesOnly : List ℕ → Option Files → Option Files → Type 0
ChangesOnly path files files' = Given files (λ m. SameBut path m files')
