-- What a run leaves.
use Rattle.std.specs.Prelude.{◌≡◌, ◌++◌, ℕ, Bool, true, false, List, Option, None, Some, encode_utf8_all}
use Rattle.snap_io.specs.Changes.{Change, all_changed}
use Rattle.snap_io.specs.Files.{Files}
use Rattle.snap_io.specs.Outside.{Becomes}
use Rattle.snap_io.specs.StandsAfter.{StandsAfter}
use Rattle.snap_io.specs.Streams.{HoldsFront}
use Rattle.snap_review.specs.Planned.{Found, AreFound, IsPlanned, HasNoPlan, changes_of}
use Rattle.snap_review.specs.declared.plan.Plan.{Plan}
use Rattle.snap_review.specs.declared.status.ReviewStatus.{ReviewStatus}
use Rattle.snap_review.specs.declared.status.ReviewStatus.TheVariants.{Done, BadWords, FileIo, WriteFault, OutOfMemory}
use Rattle.snap_review.specs.FilePlanned.{IsFilePlan, HasNoFilePlan}
use Rattle.snap_review.specs.declared.words.Request.{Request}
use Rattle.snap_review.specs.declared.words.Target.{Target}
use Rattle.snap_review.specs.declared.words.Target.TheVariants.{Literals, File}

-- a status that tells that the store failed
abbrev pub says_file_fault : ReviewStatus → Bool
says_file_fault (FileIo path) = true
says_file_fault other = false

-- a status that tells that the sink failed
abbrev pub says_write_fault : ReviewStatus → Bool
says_write_fault WriteFault = true
says_write_fault other = false

-- all lines are written, or a part of their front where the sink failed
abbrev pub IsSaid : List ℕ → ReviewStatus → Option (List ℕ) → Option (List ℕ) → Type 0
IsSaid lines Done written written' = (w : List ℕ) → written ≡ Some w → written' ≡ Some (w ++ encode_utf8_all lines)
IsSaid lines WriteFault written written' = (w : List ℕ) → written ≡ Some w → HoldsFront (encode_utf8_all lines) w written'
IsSaid lines other written written' = ⊥

-- where the changes stopped, nothing was written
pub record IsStopped (changes : List Change) (named : Option (List ℕ)) (files files' : Option Files) (written written' : Option (List ℕ)) : Type 0 where
  pub stands : StandsAfter changes named files files'
  pub silent : written' ≡ written

-- all changes are done, and then the lines were written
pub record IsCarriedOut (changes : List Change) (lines : List ℕ) (status : ReviewStatus) (files files' : Option Files) (written written' : Option (List ℕ)) : Type 0 where
  pub done : Becomes files files' (all_changed changes)
  pub said : IsSaid lines status written written'

-- how far changes and lines came
abbrev pub WorkEnd : List Change → List ℕ → ReviewStatus → Option Files → Option Files → Option (List ℕ) → Option (List ℕ) → Type 0
WorkEnd changes lines (FileIo path) files files' written written' = IsStopped changes (Some path) files files' written written'
WorkEnd changes lines OutOfMemory files files' written written' = IsStopped changes None files files' written written'
WorkEnd changes lines status files files' written written' = IsCarriedOut changes lines status files files' written written'

-- a plan was made and carried out as far as the status says; or there is none, for its reason, and nothing has changed
pub data RunEnd (request : Request) (IsPlan : Plan → Type 0) (HasNone : ReviewStatus → Type 0) (status : ReviewStatus) (files files' : Option Files) (written written' : Option (List ℕ)) : Type 0 where
  worked : (plan : Plan) → IsPlan plan → WorkEnd (changes_of request plan) plan.lines status files files' written written'
      → RunEnd request IsPlan HasNone status files files' written written'
  unplanned : HasNone status → files' ≡ files → written' ≡ written → RunEnd request IsPlan HasNone status files files' written written'

-- the run of a request for literals over these files
pub record IsRunOfLiterals (request : Request) (status : ReviewStatus) (files files' : Option Files) (written written' : Option (List ℕ)) : Type 0 where
  pub found : Found
  pub told : AreFound request found files
  pub end : RunEnd request (IsPlanned request found) (HasNoPlan request.command request found) status files files' written written'

-- the run of a request over these files, by what waits
abbrev pub IsRunFor : Target → Request → ReviewStatus → Option Files → Option Files → Option (List ℕ) → Option (List ℕ) → Type 0
IsRunFor Literals request status files files' written written' = IsRunOfLiterals request status files files' written written'
IsRunFor File request status files files' written written' =
    RunEnd request (IsFilePlan request.command request files) (HasNoFilePlan request.command request files) status files files' written written'

-- the run of a request over these files
abbrev pub IsRunOf : Request → ReviewStatus → Option Files → Option Files → Option (List ℕ) → Option (List ℕ) → Type 0
IsRunOf request status files files' written written' = IsRunFor request.target request status files files' written written'

-- wrong words begin nothing, and for others memory may be out before anything begins
abbrev pub ReviewOf : Option Request → ReviewStatus → Option Files → Option Files → Option (List ℕ) → Option (List ℕ) → Type 0
ReviewOf None status files files' written written' = (status ≡ BadWords) × (files' ≡ files) × (written' ≡ written)
ReviewOf (Some request) status files files' written written' = IsRunOf request status files files' written written'
