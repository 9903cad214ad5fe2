-- What an assertion of any value answers: of a text for a file, of a text that a literal stands for, and of a payload.
use Rattle.std.specs.Prelude.{◌≡◌, ◌⊎◌, ℕ, true, false, List, Option, Some, Result, Ok, Err}
use Rattle.snap_io.specs.Files.{Files}
use Rattle.snap_assert_place.specs.Place.{PlaceView}
use Rattle.snap_assert_place.specs.SnapshotPath.{path_of, records_path}
use Rattle.snap_assert_settings.specs.Settings.{SettingsView}
use Rattle.snap_assert_settings.specs.declared.config.Config.{Config}
use Rattle.snap_assert_settings.specs.declared.config.Update.{Update}
use Rattle.snap_assert.specs.Assertions.{text_assertion_of, payload_assertion_of}
use Rattle.snap_assert.specs.Compared.{IsAnsweredBy}
use Rattle.snap_assert.specs.Halts.{IsHaltedBy}
use Rattle.snap_assert.specs.Kept.{KeptBy, KeptWith, NamesOwn, NamesOnly}
use Rattle.snap_assert.specs.LiteralCourses.{LiteralRefused, literal_course_of}
use Rattle.snap_assert.specs.LiteralHalts.{IsLiteralHalted}
use Rattle.snap_assert.specs.LiteralOutcomes.{ChangesOnly, IsLiteralStopped, LiteralAnswered}
use Rattle.snap_assert.specs.Literals.{literal_assertion_of}
use Rattle.snap_assert.specs.Names.{Named, name_step}
use Rattle.snap_assert.specs.Outcomes.{IsStopped}
use Rattle.snap_assert.specs.Payloads.{is_bad_extension}
use Rattle.snap_assert.specs.Relations.{Relation}
use Rattle.snap_assert.specs.Session.{SessionView}
use Rattle.snap_assert.specs.declared.error.AssertError.{AssertError}
use Rattle.snap_assert.specs.declared.error.AssertError.TheVariants.{BadExtension}
use Rattle.snap_assert.specs.declared.outcome.Outcome.{Outcome}
use Rattle.snap_assert.specs.declared.value.SnapshotValue.{SnapshotValue}
use Rattle.snap_assert.specs.declared.value.SnapshotValue.TheVariants.{FileText, InlineText, Binary}

-- a payload is answered by the relation, with an extension that is not refused
pub record PayloadAnswered (relation : Relation) (config : Config) (settings : SettingsView) (place : PlaceView) (name : Option (List ℕ)) (content : List ℕ) (extension : Option (List ℕ)) (outcome : Outcome) (files files' : Option Files) (session session' : SessionView) : Type 0 where
  pub told : List ℕ
  pub told_is : extension ≡ Some told
  pub good : is_bad_extension extension ≡ false
  pub answered : IsAnsweredBy relation config (payload_assertion_of settings place name told content) outcome files files' session session'

-- it comes to no answer, though its extension is not refused
pub record PayloadStopped (settings : SettingsView) (place : PlaceView) (name : Option (List ℕ)) (content : List ℕ) (extension : Option (List ℕ)) (error : AssertError) (files files' : Option Files) (session session' : SessionView) : Type 0 where
  pub told : List ℕ
  pub told_is : extension ≡ Some told
  pub good : is_bad_extension extension ≡ false
  pub stopped : IsStopped (payload_assertion_of settings place name told content) error files files' session session'

-- an extension that is refused is so before anything else, and nothing is changed
abbrev pub PayloadStops : SettingsView → PlaceView → Option (List ℕ) → List ℕ → Option (List ℕ) → AssertError → Option Files → Option Files → SessionView → SessionView → Type 0
PayloadStops settings place name content extension BadExtension files files' session session' = (is_bad_extension extension ≡ true) × ((files' ≡ files) × (session' ≡ session))
PayloadStops settings place name content extension error files files' session session' = PayloadStopped settings place name content extension error files files' session session'

-- it is answered by the relation: for a file as a text is there, for a literal as that is
abbrev pub ValueAnswered : Relation → Config → SettingsView → PlaceView → SnapshotValue → Outcome → Option Files → Option Files → SessionView → SessionView → Type 0
ValueAnswered relation config settings place (FileText name content) outcome files files' session session' =
    IsAnsweredBy relation config (text_assertion_of settings place name content) outcome files files' session session'
ValueAnswered relation config settings place (InlineText reference content) outcome files files' session session' =
    LiteralAnswered relation config (literal_assertion_of settings place reference content) outcome files files' session session'
ValueAnswered relation config settings place (Binary name content extension) outcome files files' session session' =
    PayloadAnswered relation config settings place name content extension outcome files files' session session'

-- why it comes to no answer
abbrev pub ValueStopped : Relation → Config → SettingsView → PlaceView → SnapshotValue → AssertError → Option Files → Option Files → SessionView → SessionView → Type 0
ValueStopped relation config settings place (FileText name content) error files files' session session' =
    IsStopped (text_assertion_of settings place name content) error files files' session session'
ValueStopped relation config settings place (InlineText reference content) error files files' session session' =
    IsLiteralStopped relation config (literal_assertion_of settings place reference content) error files files' session session'
ValueStopped relation config settings place (Binary name content extension) error files files' session session' =
    PayloadStops settings place name content extension error files files' session session'

-- where its extension is not refused it stopped as a text for a file does
abbrev pub PayloadHalted : Relation → Config → SettingsView → PlaceView → Option (List ℕ) → List ℕ → Option (List ℕ) → AssertError → Option Files → Option Files → SessionView → Type 0
PayloadHalted relation config settings place name content extension error files files' session =
    (told : List ℕ) → extension ≡ Some told → is_bad_extension extension ≡ false → IsHaltedBy relation config (payload_assertion_of settings place name told content) error files files' session

-- what stands where it stopped
abbrev pub ValueHalted : Relation → Config → SettingsView → PlaceView → SnapshotValue → AssertError → Option Files → Option Files → SessionView → Type 0
ValueHalted relation config settings place (FileText name content) error files files' session = IsHaltedBy relation config (text_assertion_of settings place name content) error files files' session
ValueHalted relation config settings place (InlineText reference content) error files files' session =
    IsLiteralHalted relation config (literal_assertion_of settings place reference content) error files files' session
ValueHalted relation config settings place (Binary name content extension) error files files' session =
    PayloadHalted relation config settings place name content extension error files files' session

-- it is refused before any file is touched: a payload by its extension, one for a file by its name, and a literal by its name and an open block
abbrev pub ValueIsRefused : SettingsView → PlaceView → SnapshotValue → SessionView → Type 0
ValueIsRefused settings place (FileText name content) session = (error : AssertError) × (name_step settings place name session ≡ Err error)
ValueIsRefused settings place (InlineText reference content) session =
    (refused : LiteralRefused) × (literal_course_of (literal_assertion_of settings place reference content) session ≡ Err refused)
ValueIsRefused settings place (Binary name content extension) session = (is_bad_extension extension ≡ true) ⊎ ((error : AssertError) × (name_step settings place name session ≡ Err error))

-- which files stay: for a file those that none at its path may change, for a literal all but that of the records
abbrev pub ValueKeeps : Update → SettingsView → PlaceView → SnapshotValue → SessionView → Option Files → Option Files → Type 0
ValueKeeps mode settings place (FileText name content) session files files' =
    (named : Named) → name_step settings place name session ≡ Ok named → KeptBy mode (path_of settings place named.name) files files'
ValueKeeps mode settings place (InlineText reference content) session files files' = ChangesOnly (records_path place) files files'
ValueKeeps mode settings place (Binary name content extension) session files files' =
    (named : Named) → name_step settings place name session ≡ Ok named → KeptWith extension mode (path_of settings place named.name) files files'

-- which paths a fault may name: for a file its own, for a literal that of the records
abbrev pub ValueNames : Update → SettingsView → PlaceView → SnapshotValue → SessionView → Result Outcome AssertError → Type 0
ValueNames mode settings place (FileText name content) session result =
    (named : Named) → name_step settings place name session ≡ Ok named → NamesOwn mode (path_of settings place named.name) result
ValueNames mode settings place (InlineText reference content) session result = NamesOnly (records_path place) result
ValueNames mode settings place (Binary name content extension) session result =
    (named : Named) → name_step settings place name session ≡ Ok named → NamesOwn mode (path_of settings place named.name) result
