-- What reading the records and the source comes to.
use Rattle.std.specs.Prelude.{◌≡◌, ◌⊎◌, ℕ, List, Option, None, Some, Result, Ok, Err}
use Rattle.std.specs.FinMap.{get}
use Rattle.snap_io.specs.Files.{Files}
use Rattle.snap_store.specs.Reading.{IsTextFile}
use Rattle.snap_review.specs.Planned.{IsUnread, HasNoSource, IsAccepted, IsUnaccepted}
use Rattle.snap_review.specs.declared.patching.NewLiteral.{NewLiteral}
use Rattle.snap_review.specs.declared.plan.Plan.{Plan}
use Rattle.snap_review.specs.declared.words.Request.{Request}
use Rattle.snap_review.specs.declared.status.ReviewStatus.{ReviewStatus}
use Rattle.snap_review.specs.declared.status.ReviewStatus.TheVariants.{NoPending, Unreadable, FileIo, NoSource, OutOfMemory}

-- some file was found at the path, which is the one among the files where they are told, and it came to this
pub record IsFoundAt (path : List ℕ) (files : Option Files) (Comes : Option (List ℕ) → Type 0) : Type 0 where
  pub file : Option (List ℕ)
  pub told : (m : Files) → files ≡ Some m → file ≡ get m path
  pub comes_to : Comes file

-- why records were not read
abbrev pub IsUnasked : List ℕ → Option (List ℕ) → ReviewStatus → Type 0
IsUnasked path file NoPending = file ≡ None
IsUnasked path file (Unreadable error) = IsUnread path file error
IsUnasked path file (FileIo named) = named ≡ path
IsUnasked path file OutOfMemory = Unit {0}
IsUnasked path file other = ⊥

-- why a source was not read
abbrev pub IsNoSource : List ℕ → Option (List ℕ) → ReviewStatus → Type 0
IsNoSource path file NoSource = HasNoSource file
IsNoSource path file (FileIo named) = named ≡ path
IsNoSource path file OutOfMemory = Unit {0}
IsNoSource path file other = ⊥

-- the text of a source, or why it was not read
abbrev pub SourceEnd : List ℕ → Option (List ℕ) → Result (List ℕ) ReviewStatus → Type 0
SourceEnd path file (Ok text) = IsTextFile file text
SourceEnd path file (Err status) = IsNoSource path file status

-- what was found at the path of the source, and the changes to it: a plan, or why there is none
abbrev pub SourcePlanEnd : Request → Option (List ℕ) → List NewLiteral → Result Plan ReviewStatus → Type 0
SourcePlanEnd request file changes (Ok plan) = (text : List ℕ) × IsTextFile file text × IsAccepted request.waiting text changes plan
SourcePlanEnd request file changes (Err status) = IsNoSource request.path file status ⊎ ((text : List ℕ) × IsTextFile file text × IsUnaccepted text changes status)
