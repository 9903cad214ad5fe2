-- What a request for a snapshot file is to change and to answer, by the files that it finds.
use Rattle.std.specs.Prelude.{◌≡◌, ◌⊎◌, ◌++◌, ℕ, List, [], ◌∷◌, Option, None, Some, Result, Ok, Err, codes, unwrap_or, IsSome}
use Rattle.snap_content.specs.declared.error.Error.{Error}
use Rattle.snap_content.specs.declared.error.Error.TheVariants as e
use Rattle.snap_io.specs.Files.{Files}
use Rattle.snap_io.specs.Listed.{AreNames}
use Rattle.snap_path.specs.Paths.{parent_of, name_of}
use Rattle.snap_store.specs.Reading.{IsReadFrom, IsRefused, IsBeside}
use Rattle.snap_store.specs.declared.snapshot.Snapshot.{Snapshot}
use Rattle.snap_review.specs.Planned.{IsPlanWith}
use Rattle.snap_review.specs.Read.{IsFoundAt}
use Rattle.snap_review.specs.Strays.{left_in}
use Rattle.snap_review.specs.declared.file_plan.Leaving.{Leaving}
use Rattle.snap_review.specs.declared.plan.Plan.{Plan}
use Rattle.snap_review.specs.declared.plan.Put.TheVariants as put
use Rattle.snap_review.specs.declared.status.ReviewStatus.{ReviewStatus}
use Rattle.snap_review.specs.declared.status.ReviewStatus.TheVariants.{NoPending, Unreadable, FileIo, OutOfMemory}
use Rattle.snap_review.specs.declared.words.Command.{Command}
use Rattle.snap_review.specs.declared.words.Command.TheVariants.{Accept, Reject}
use Rattle.snap_review.specs.declared.words.Request.{Request}

-- the names in the folder of the path, where the files are told
abbrev pub AreListed : List ℕ → Option Files → List (List ℕ) → Type 0
AreListed path files names = (m : Files) → files ≡ Some m → AreNames m (parent_of path) names

-- what goes once a file of this folder is accepted or rejected: what payloads left beside its place, and at last the file that waited
abbrev pub going : Request → List ℕ → List (List ℕ) → List (List ℕ)
going request folder names = left_in folder (unwrap_or (name_of request.path) []) names ++ request.waiting ∷ []

-- the line of an answer: the word, a blank, the path
abbrev pub file_line : List ℕ → List ℕ → List ℕ
file_line word path = word ++ (32 ∷ (path ++ 10 ∷ []))

-- the snapshot that waits, with its payload, is put in its place, what goes then is removed, and that is answered
pub record IsFileAcceptance (request : Request) (files : Option Files) (plan : Plan) : Type 0 where
  pub snapshot : Snapshot
  pub read : IsReadFrom request.waiting files (Ok snapshot)
  pub names : List (List ℕ)
  pub listed : AreListed request.path files names
  pub plan_is : IsPlanWith (put.Snapshot snapshot) (going request (parent_of request.path) names) (file_line (codes "accepted") request.path) plan

-- a file waits, whatever its bytes are; the one in its place stays, what goes is removed, and that is answered
pub record IsFileRejection (request : Request) (files : Option Files) (plan : Plan) : Type 0 where
  pub there : IsFoundAt request.waiting files (λ file. IsSome file)
  pub names : List (List ℕ)
  pub listed : AreListed request.path files names
  pub plan_is : IsPlanWith put.Nothing (going request (parent_of request.path) names) (file_line (codes "rejected") request.path) plan

abbrev pub IsFilePlan : Command → Request → Option Files → Plan → Type 0
IsFilePlan Accept request files plan = IsFileAcceptance request files plan
IsFilePlan Reject request files plan = IsFileRejection request files plan

-- the bytes of a snapshot file give this error its cause
abbrev pub IsMisread : List ℕ → Option (List ℕ) → Error → Type 0
IsMisread path file (e.FileIo named) = ⊥
IsMisread path file (e.NoFile named) = ⊥
IsMisread path file e.OutOfMemory = ⊥
IsMisread path file error = IsRefused path file error

-- why a snapshot file was not read; the store may fail at it, or at the payload beside it
abbrev pub IsUnreadFile : List ℕ → Option (List ℕ) → ReviewStatus → Type 0
IsUnreadFile path file NoPending = file ≡ None
IsUnreadFile path file (Unreadable error) = IsMisread path file error
IsUnreadFile path file (FileIo named) = (named ≡ path) ⊎ IsBeside path file named
IsUnreadFile path file OutOfMemory = Unit {0}
IsUnreadFile path file other = ⊥

-- why it is not known that a file is there
abbrev pub IsUnknown : List ℕ → ReviewStatus → Type 0
IsUnknown path (FileIo named) = named ≡ path
IsUnknown path OutOfMemory = Unit {0}
IsUnknown path other = ⊥

-- nothing waits there, or whether it does is not known
abbrev pub IsUnfound : List ℕ → Option (List ℕ) → ReviewStatus → Type 0
IsUnfound path file status = ((status ≡ NoPending) × (file ≡ None)) ⊎ IsUnknown path status

abbrev pub IsUnfoundBy : Command → Request → Option Files → ReviewStatus → Type 0
IsUnfoundBy Accept request files status = IsFoundAt request.waiting files (λ file. IsUnreadFile request.waiting file status)
IsUnfoundBy Reject request files status = IsFoundAt request.waiting files (λ file. IsUnfound request.waiting file status)

-- why there is no plan: what waits was not found, or the folder was not listed
abbrev pub HasNoFilePlan : Command → Request → Option Files → ReviewStatus → Type 0
HasNoFilePlan command request files status = IsUnfoundBy command request files status ⊎ IsUnknown (parent_of request.path) status

-- a plan by a command was made, or there is none
abbrev pub FilePlanEnd : Command → Request → Option Files → Result Plan ReviewStatus → Type 0
FilePlanEnd command request files (Ok plan) = IsFilePlan command request files plan
FilePlanEnd command request files (Err status) = HasNoFilePlan command request files status

-- what goes of these names in a folder, and the answer with this word
pub record IsLeaving (request : Request) (folder : List ℕ) (names : List (List ℕ)) (word : List ℕ) (leaving : Leaving) : Type 0 where
  pub removals_are : leaving.removals.items ≡ going request folder names
  pub lines_are : leaving.lines ≡ file_line word request.path

-- the same of the names that were listed
pub record IsLeavingOf (request : Request) (word : List ℕ) (files : Option Files) (leaving : Leaving) : Type 0 where
  pub names : List (List ℕ)
  pub listed : AreListed request.path files names
  pub left : IsLeaving request (parent_of request.path) names word leaving

abbrev pub LeavingEnd : Request → List ℕ → Option Files → Result Leaving ReviewStatus → Type 0
LeavingEnd request word files (Ok leaving) = IsLeavingOf request word files leaving
LeavingEnd request word files (Err status) = IsUnknown (parent_of request.path) status

-- the snapshot that was read of what waits
abbrev pub IsSnapshotFrom : Request → Option Files → Snapshot → Type 0
IsSnapshotFrom request files snapshot = IsReadFrom request.waiting files (Ok snapshot)

-- a file is there, or nothing waits
abbrev pub ThereEnd : {T : Type 0} → Option (List ℕ) → Result T ReviewStatus → Type 0
ThereEnd file (Ok value) = IsSome file
ThereEnd file (Err status) = (status ≡ NoPending) × (file ≡ None)

-- the same at a path, or why it is not known
abbrev pub FoundEnd : {T : Type 0} → List ℕ → Option Files → Result T ReviewStatus → Type 0
FoundEnd path files (Ok value) = IsFoundAt path files (λ file. IsSome file)
FoundEnd path files (Err status) = IsFoundAt path files (λ file. IsUnfound path file status)
