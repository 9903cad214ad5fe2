-- What stands of an assertion that stopped by a fault, or out of memory.
use Rattle.std.specs.Prelude.{◌≡◌, ◌⊎◌, ℕ, Bool, List, Option, None, Some, Ok}
use Rattle.std.specs.FinMap.{get}
use Rattle.snap_io.specs.Files.{Files}
use Rattle.snap_io.specs.Outside.{Given, Becomes}
use Rattle.snap_io.specs.StandsAfter.{StandsAfter}
use Rattle.snap_path.specs.Paths.{parent_of}
use Rattle.snap_store.specs.Reading.{IsBeside}
use Rattle.snap_assert.specs.Assertions.{Assertion, asked_under}
use Rattle.snap_assert.specs.Judging.{Allowed}
use Rattle.snap_assert.specs.Names.{Named, name_step}
use Rattle.snap_assert.specs.Prepared.{IsPassedBy}
use Rattle.snap_assert.specs.Relations.{Relation}
use Rattle.snap_assert.specs.Session.{SessionView}
use Rattle.snap_assert.specs.Settling.{settling}
use Rattle.snap_assert.specs.Steps.{Asked}
use Rattle.snap_assert.specs.Strays.{AllStray, AreStrays}
use Rattle.snap_assert_settings.specs.declared.config.Config.{Config}
use Rattle.snap_assert.specs.declared.error.AssertError.{AssertError}
use Rattle.snap_assert.specs.declared.error.AssertError.TheVariants.{FileIo, OutOfMemory}
use Rattle.snap_assert.specs.declared.outcome.Warning.{Warning}

-- the path that a fault names
abbrev pub named_by : AssertError → Option (List ℕ)
named_by (FileIo path) = Some path
named_by _ = None

-- the path is that of the payload beside a snapshot, with the extension that its file tells
pub record IsPayloadOf (path : List ℕ) (files : Option Files) (named : List ℕ) : Type 0 where
  pub file : Option (List ℕ)
  pub told : Given files (λ m. file ≡ get m path)
  pub beside : IsBeside path file named

-- the paths at which is looked before anything is changed: that of the snapshot, that of the payload beside it, and the folder
abbrev pub IsLookedAt : List ℕ → Option Files → List ℕ → Type 0
IsLookedAt path files named = (named ≡ path) ⊎ (IsPayloadOf path files named ⊎ (named ≡ parent_of path))

-- a fault is one of looking: it names one of these
abbrev pub FaultIsLook : List ℕ → Option Files → AssertError → Type 0
FaultIsLook path files (FileIo named) = IsLookedAt path files named
FaultIsLook path files _ = Unit {0}

-- what was seen, where the files are told: a pass that may be, or none, and the strays
pub record MayBeSeen (may : Bool → Files → Type 0) (path : List ℕ) (passed : Bool) (strays : List (List ℕ)) (m : Files) : Type 0 where
  pub passes : may passed m
  pub left : AreStrays path m strays

-- nothing was changed, and a fault was one of looking; or it was seen whether it passes, and of the changes that follow those before one
-- are done, that one is in work, none behind it was begun, and a fault names its path
pub data HaltsBy (may : Bool → Files → Type 0) (config : Config) (asked : Asked) (error : AssertError) (files files' : Option Files) : Type 0 where
  looking : Becomes files files' (λ m. m) → FaultIsLook asked.path files error → HaltsBy may config asked error files files'
  changing : (passed : Bool) (strays : List (List ℕ)) → AllStray asked.path strays → Given files (MayBeSeen may asked.path passed strays)
      → StandsAfter (settling config.update config.force_update asked passed strays) (named_by error) files files' → HaltsBy may config asked error files files'

-- it passes against the files by the relation, or not, whatever was to be said of them
abbrev pub PassesAgainst : Relation → Asked → Bool → Files → Type 0
PassesAgainst relation asked passed m = (warnings : List Warning) × IsPassedBy relation asked m passed warnings

-- the same of an assertion under the name that it takes, where it passes exactly by the relation
abbrev pub IsHaltedBy : Relation → Config → Assertion → AssertError → Option Files → Option Files → SessionView → Type 0
IsHaltedBy relation config a error files files' session = (named : Named) → name_step a.settings a.place a.given session ≡ Ok named
    → HaltsBy (PassesAgainst relation (asked_under a named.name)) config (asked_under a named.name) error files files'

-- it passes against the files as it may, or not
abbrev pub PassesAsAllowed : Config → Asked → Bool → Files → Type 0
PassesAsAllowed config asked passed m = Allowed config.require_full_match asked passed (get m asked.path)

-- the same where it passes as it may; where no name is taken nothing is changed, which clauses of their own tell
abbrev pub IsHalted : Config → Assertion → AssertError → Option Files → Option Files → SessionView → Type 0
IsHalted config a error files files' session = (named : Named) → name_step a.settings a.place a.given session ≡ Ok named
    → HaltsBy (PassesAsAllowed config (asked_under a named.name)) config (asked_under a named.name) error files files'

-- memory was out before the tree was printed: no file is changed
abbrev pub IsUnbegun : AssertError → Option Files → Option Files → Type 0
IsUnbegun error files files' = (error ≡ OutOfMemory) × (files' ≡ files)
