-- What an assertion answers.
use Rattle.std.specs.Prelude.{◌≡◌, ◌⊎◌, ◌&&◌, ℕ, Bool, true, false, not, List, [], ◌∷◌, ◌++◌, Option, None, Some, Result, Ok, Err}
use Rattle.std.specs.FinMap.{get}
use Rattle.snap_content.specs.List.{items_of}
use Rattle.snap_content.specs.Plain.{dict, Entries}
use Rattle.snap_content.specs.declared.error.Error.{Error}
use Rattle.snap_content.specs.declared.error.Error.TheVariants.{FailedParsingYaml, UnexpectedDataType, MissingField, NotText, NoFile}
use Rattle.snap_io.specs.Causes.{Rose}
use Rattle.snap_io.specs.Files.{Files}
use Rattle.snap_io.specs.Outside.{Given, Becomes}
use Rattle.snap_print.specs.Lines.{text_of}
use Rattle.snap_store.specs.Fields.{kind_in}
use Rattle.snap_store.specs.Reading.{IsTextFile, ReadsHeader, IsRefused, FileEnd}
use Rattle.snap_store.specs.Views.{legacy_in, number_text_in}
use Rattle.snap_store.specs.declared.snapshot.Snapshot.{Snapshot}
use Rattle.snap_store.specs.declared.metadata.SnapshotKind.{SnapshotKind}
use Rattle.snap_assert.specs.Judging.{BodyMatches, IsLegacyFile, Allowed}
use Rattle.snap_assert.specs.Assertions.{Assertion, asked_under}
use Rattle.snap_assert.specs.Courses.{Course, Refused, course_of, cleared_at}
use Rattle.snap_assert.specs.Names.{Named, name_step}
use Rattle.snap_assert.specs.Session.{SessionView}
use Rattle.snap_assert.specs.Steps.{Asked, step, verdict_of, is_failure}
use Rattle.snap_assert.specs.Subjects.{OfTree}
use Rattle.snap_assert_settings.specs.declared.config.Config.{Config}
use Rattle.snap_assert.specs.declared.error.AssertError.{AssertError}
use Rattle.snap_assert.specs.declared.error.AssertError.TheVariants.{FileIo, OutOfMemory}
use Rattle.snap_assert.specs.declared.outcome.Outcome.{Outcome}
use Rattle.snap_assert.specs.declared.outcome.Warning.{Warning}
use Rattle.snap_assert.specs.declared.outcome.Warning.TheVariants.{LegacyFile, NumberAsText, Unreadable, LegacyContents}

-- the file has a header, which is read as that of a snapshot, and a number in it is kept as its text or not
pub record IsHeadedFile (file : Option (List ℕ)) (kept : Bool) : Type 0 where
  pub whole : List ℕ
  pub there : IsTextFile file whole
  pub entries : Entries
  pub header : ReadsHeader whole (dict entries) kept
  pub kind : SnapshotKind
  pub kind_is : kind_in entries ≡ Some kind

-- a file that is there and isn't understood is refused with this error
abbrev pub IsNotUnderstood : List ℕ → Option (List ℕ) → Error → Type 0
IsNotUnderstood path file (NotText named) = IsRefused path file (NotText named)
IsNotUnderstood path file (FailedParsingYaml named) = IsRefused path file (FailedParsingYaml named)
IsNotUnderstood path file UnexpectedDataType = IsRefused path file UnexpectedDataType
IsNotUnderstood path file MissingField = IsRefused path file MissingField
IsNotUnderstood path file _ = ⊥

-- what is said of a file that is read: that it passes by the older form alone
abbrev pub PassWarns : Option (List ℕ) → Bool → List ℕ → List Warning → Type 0
PassWarns file passed printed [] = passed ≡ true → BodyMatches file printed
PassWarns file passed printed (LegacyContents ∷ []) = (passed ≡ true) × (BodyMatches file printed → ⊥)
PassWarns file passed printed _ = ⊥

-- that a file isn't understood is said alone, and never of a pass; that it is of the oldest format, or that its header keeps a number as its text,
-- is said first
abbrev pub AreWarnings : List ℕ → Option (List ℕ) → Bool → List ℕ → List Warning → Type 0
AreWarnings path file passed printed (Unreadable error ∷ []) = (passed ≡ false) × IsNotUnderstood path file error
AreWarnings path file passed printed (LegacyFile ∷ more) = IsLegacyFile file × PassWarns file passed printed more
AreWarnings path file passed printed (NumberAsText ∷ more) = IsHeadedFile file true × PassWarns file passed printed more
AreWarnings path file passed printed warnings = ((file ≡ None) × (warnings ≡ [])) ⊎ (IsHeadedFile file false × PassWarns file passed printed warnings)

abbrev pub said_if : Bool → Warning → List Warning
said_if true warning = warning ∷ []
said_if false warning = []

-- what is said of a file of the oldest format, of a number that is kept as a text, and of a pass by the older form alone
abbrev pub said : Bool → Bool → Bool → List Warning
said was_legacy number_as_text older = said_if was_legacy LegacyFile ++ said_if number_as_text NumberAsText ++ said_if older LegacyContents

-- what is said where the reading of a file came to this: of a snapshot how it was read, and of a file that isn't understood why, and
-- that it is no pass; nothing of a file that isn't there
abbrev pub SaysOf : Result Snapshot Error → Bool → List Warning → Type 0
SaysOf (Ok snapshot) passed warnings = (older : Bool) × (warnings ≡ said (legacy_in snapshot) (number_text_in snapshot) older)
SaysOf (Err (NoFile named)) passed warnings = (passed ≡ false) × (warnings ≡ [])
SaysOf (Err (NotText named)) passed warnings = (passed ≡ false) × (warnings ≡ Unreadable (NotText named) ∷ [])
SaysOf (Err (FailedParsingYaml named)) passed warnings = (passed ≡ false) × (warnings ≡ Unreadable (FailedParsingYaml named) ∷ [])
SaysOf (Err UnexpectedDataType) passed warnings = (passed ≡ false) × (warnings ≡ Unreadable UnexpectedDataType ∷ [])
SaysOf (Err MissingField) passed warnings = (passed ≡ false) × (warnings ≡ Unreadable MissingField ∷ [])
SaysOf (Err error) passed warnings = ⊥

-- the verdict and the warnings speak of one reading of the file
pub record SpeakOfOne (path : List ℕ) (file : Option (List ℕ)) (passed : Bool) (warnings : List Warning) : Type 0 where
  pub read : Result Snapshot Error
  pub end : FileEnd path file read
  pub says : SaysOf read passed warnings

-- what is asked of the files is answered: by a pass that is allowed or none, with the verdict by the mode, and with the files of the
-- step where they are told
pub record IsDone (config : Config) (asked : Asked) (outcome : Outcome) (files files' : Option Files) : Type 0 where
  pub passed : Bool
  pub verdict : outcome.verdict ≡ verdict_of config.update passed
  pub path : outcome.path ≡ asked.path
  pub fails : outcome.fails ≡ (is_failure outcome.verdict && not config.force_pass)
  pub allowed : Given files (λ m. Allowed config.require_full_match asked passed (get m asked.path))
  pub stands : Becomes files files' (λ m. step config.update config.force_update asked passed m)
  pub warned : Given files (λ m. OfTree (λ w tree. AreWarnings asked.path (get m asked.path) passed (text_of w tree) (items_of outcome.warnings)) asked.subject)
  pub one : Given files (λ m. SpeakOfOne asked.path (get m asked.path) passed (items_of outcome.warnings))

-- an assertion is answered: whatever the files are, it goes on under the name of its course, and what is remembered is that of the course
pub record IsAnswered (config : Config) (assertion : Assertion) (outcome : Outcome) (files files' : Option Files) (session session' : SessionView) : Type 0 where
  pub course : Course
  pub course_is : course_of assertion session ≡ Ok course
  pub remembered : session' ≡ course.session
  pub done : IsDone config (asked_under assertion course.name) outcome files files'

-- an assertion is refused by what is remembered: whatever the files are, its course is refused so
pub record IsRefusedAs (assertion : Assertion) (error : AssertError) (files files' : Option Files) (session session' : SessionView) : Type 0 where
  pub refused : Refused
  pub course_is : course_of assertion session ≡ Err refused
  pub error_is : refused.error ≡ error
  pub remembered : session' ≡ refused.session
  pub stands : Becomes files files' (cleared_at assertion refused.taken)

-- after a fault or running out of memory what is remembered is as before, as after the name was taken, or as after the whole course
abbrev pub MayRemember : Assertion → SessionView → SessionView → Type 0
MayRemember a session session' =
    (session' ≡ session) ⊎ (((named : Named) × (name_step a.settings a.place a.given session ≡ Ok named) × (session' ≡ named.session))
    ⊎ ((course : Course) × (course_of a session ≡ Ok course) × (session' ≡ course.session)))

-- why an assertion comes to no answer: a fault of the store, no memory, or what is remembered
abbrev pub IsStopped : Assertion → AssertError → Option Files → Option Files → SessionView → SessionView → Type 0
IsStopped a OutOfMemory files files' session session' = MayRemember a session session'
IsStopped a (FileIo path) files files' session session' = MayRemember a session session'
IsStopped a error files files' session session' = IsRefusedAs a error files files' session session'

-- memory was out before the tree was printed: nothing is remembered of it
abbrev pub IsUnprinted : AssertError → SessionView → SessionView → Type 0
IsUnprinted error session session' = (error ≡ OutOfMemory) × (session' ≡ session)

abbrev pub ErrorCause : ℕ → ℕ → AssertError → Type 0
ErrorCause before now (FileIo path) = Rose before now
ErrorCause before now _ = now ≡ before

-- `FileIo` comes only where the store's count rose, and any other answer leaves it
abbrev pub AssertCause : {T : Type 0} → ℕ → ℕ → Result T AssertError → Type 0
AssertCause before now (Ok value) = now ≡ before
AssertCause before now (Err error) = ErrorCause before now error

-- work on the files stops for no other reason than these two
abbrev pub WorkErrorCause : ℕ → ℕ → AssertError → Type 0
WorkErrorCause before now (FileIo path) = Rose before now
WorkErrorCause before now OutOfMemory = now ≡ before
WorkErrorCause before now _ = ⊥

-- how many calls of the store failed by the end of the work: none more, but one where a fault is returned
abbrev pub WorkCause : {T : Type 0} → ℕ → ℕ → Result T AssertError → Type 0
WorkCause before now (Ok value) = now ≡ before
WorkCause before now (Err error) = WorkErrorCause before now error
