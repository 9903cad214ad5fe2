-- What a run over many documents leaves, and where it stops.
use Rattle.std.specs.Prelude.{◌≡◌, ◌⊎◌, ◌&&◌, not, ℕ, ◌+◌, List, ◌∷◌, ◌++◌, [], Bool, true, false, length, Option, Some, Result, Ok, Err}
use Rattle.std.specs.FinMap.{get}
use Rattle.snap_io.specs.Files.{Files}
use Rattle.snap_io.specs.Outside.{Outside, Given, Becomes}
use Rattle.snap_io.specs.Streams.{HoldsFront}
use Rattle.snap_run_requests.specs.Requests.{AssertionView, RequestView, asserts, ends, Spells, ReadsAs, Reads}
use Rattle.snap_run.specs.Refused.{status_at, kind_of}
use Rattle.snap_run.specs.Answers.{Answer, RunWords, place_by, settings_by, assertion_by, asked_by, is_taken, AreTaken, remembered_after, IsAllowed, step_by, line_by, requests_of, AreAllowed, files_after, lines_of, answer_fails, passes}
use Rattle.snap_assert_place.specs.SnapshotPath.{path_of}
use Rattle.snap_assert.specs.Courses.{Course, Refused, course_of, cleared_at}
use Rattle.snap_assert.specs.Halts.{IsHalted}
use Rattle.snap_assert.specs.Judging.{Allowed}
use Rattle.snap_assert.specs.Names.{Named, name_step}
use Rattle.snap_assert.specs.Session.{SessionView, is_open}
use Rattle.snap_assert.specs.Steps.{step, verdict_of, is_failure}
use Rattle.snap_assert.specs.Kept.{KeptBy, IsOwn}
use Rattle.snap_assert.specs.declared.error.AssertError.{AssertError}
use Rattle.snap_assert.specs.declared.error.AssertError.TheVariants as refusal
use Rattle.snap_assert.specs.declared.outcome.Outcome.{Outcome}
use Rattle.snap_assert_settings.specs.declared.config.Config.{Config}
use Rattle.snap_run.specs.declared.document_error.DocumentError.{DocumentError}
use Rattle.snap_run.specs.declared.document_error.DocumentError.TheVariants as error
use Rattle.snap_run.specs.declared.status.RefusalKind.{RefusalKind}
use Rattle.snap_run.specs.declared.status.Status.{Status}
use Rattle.snap_run.specs.declared.tally.Tally.{Tally}

-- these documents were run with these answers: each was read as its answer's request, and was taken; and where the store and the
-- sink tell, each pass is allowed, the files are those after all steps, and the lines are written. What is remembered is the requests' alone
pub record Ran (words : RunWords) (documents : List (List ℕ)) (answers : List Answer) (session session' : SessionView) (before after : Outside) : Type 0 where
  pub reads : Reads documents (requests_of answers)
  pub taken : AreTaken words (requests_of answers) session
  pub remembered : session' ≡ remembered_after words (requests_of answers) session
  pub allowed : Given before.files (λ m. AreAllowed words answers session m)
  pub stands : Becomes before.files after.files (λ m. files_after words answers session m)
  pub lines : Becomes before.written after.written (λ w. w ++ lines_of words answers session)

-- the same of one document, and what is counted of its answer
pub record RanOne (words : RunWords) (document : List ℕ) (tally : Tally) (session session' : SessionView) (before after : Outside) : Type 0 where
  pub answer : Answer
  pub ran : Ran words (document ∷ []) (answer ∷ []) session session' before after
  pub failing : answer_fails words answer.request answer.passed ≡ tally.fails
  pub passing : passes answer.request answer.passed ≡ tally.passed

-- the name that an assertion takes, or why it takes none
abbrev pub name_in : RunWords → AssertionView → SessionView → Result Named AssertError
name_in words a session = name_step (settings_by a) (place_by words.workspace a) a.name session

-- the path of the snapshot of this name
abbrev pub path_in : RunWords → AssertionView → List ℕ → List ℕ
path_in words a name = path_of (settings_by a) (place_by words.workspace a) name

-- an assertion was in work: what none at its path may change is as before, and all files are where it takes no name
pub record IsInWork (words : RunWords) (a : AssertionView) (session : SessionView) (files files' : Option Files) : Type 0 where
  pub kept : (named : Named) → name_in words a session ≡ Ok named → KeptBy words.update (path_in words a named.name) files files'
  pub untouched : (refused : AssertError) → name_in words a session ≡ Err refused → files' ≡ files

-- how a run treats its assertions; it makes no records
abbrev pub config_by : RunWords → Config
config_by words = record {
  update = words.update;
  force_update = words.force_update;
  require_full_match = words.full;
  force_pass = words.force_pass;
  literal = words.literal;
  run_id = [];
}

-- the assertion stopped with this error, and under the name that it takes the files are as it then leaves them: nothing was changed, and a
-- fault was one of looking; or of its changes those before one are done, that one is in work, none behind it was begun, and a fault names
-- its path
abbrev pub HaltsAt : RunWords → AssertionView → AssertError → SessionView → Option Files → Option Files → Type 0
HaltsAt words a error session files files' = IsHalted (config_by words) (assertion_by words a) error files files' session

-- the store failed in that work at one of the assertion's own paths
pub record FileFails (words : RunWords) (a : AssertionView) (session : SessionView) (named : List ℕ) (files files' : Option Files) : Type 0 where
  pub work : IsInWork words a session files files'
  pub own : (name : Named) → name_in words a session ≡ Ok name → IsOwn words.update (path_in words a name.name) named
  pub halts : HaltsAt words a (refusal.FileIo named) session files files'

-- the assertion was answered, and all its changes are done
pub record IsAllDone (words : RunWords) (a : AssertionView) (session : SessionView) (files files' : Option Files) : Type 0 where
  pub passed : Bool
  pub course : Course
  pub course_is : course_of (assertion_by words a) session ≡ Ok course
  pub allowed : Given files (λ m. Allowed words.full (asked_by words a course.name) passed (get m (asked_by words a course.name).path))
  pub stands : Becomes files files' (λ m. step words.update words.force_update (asked_by words a course.name) passed m)

-- memory was out in that work, or after it, for its line
pub record MemoryFails (words : RunWords) (a : AssertionView) (session : SessionView) (files files' : Option Files) : Type 0 where
  pub work : IsInWork words a session files files'
  pub halts : HaltsAt words a refusal.OutOfMemory session files files' ⊎ IsAllDone words a session files files'

-- what is remembered refuses it, with this kind; what was pending is gone where a block refuses it
pub record IsRefusedWith (kind : RefusalKind) (words : RunWords) (a : AssertionView) (session : SessionView) (files files' : Option Files) : Type 0 where
  pub refused : Refused
  pub course_is : course_of (assertion_by words a) session ≡ Err refused
  pub kind_is : kind_of refused.error ≡ Some kind
  pub stands : Becomes files files' (cleared_at (assertion_by words a) refused.taken)
  pub work : IsInWork words a session files files'

-- the document was run, and a part of its line is written
pub record LineFails (words : RunWords) (document : List ℕ) (session : SessionView) (before after : Outside) : Type 0 where
  pub answer : Answer
  pub reads : ReadsAs document answer.request
  pub taken : is_taken words answer.request session ≡ true
  pub allowed : Given before.files (λ m. IsAllowed words answer.request answer.passed session m)
  pub stands : Becomes before.files after.files (λ m. step_by words answer.request answer.passed session m)
  pub line : Given before.written (λ w. HoldsFront (line_by words answer.request answer.passed session) w after.written)

-- an assertion was answered
pub record IsMade (words : RunWords) (a : AssertionView) (outcome : Outcome) (session session' : SessionView) (files files' : Option Files) : Type 0 where
  pub passed : Bool
  pub course : Course
  pub course_is : course_of (assertion_by words a) session ≡ Ok course
  pub remembered : session' ≡ course.session
  pub verdict : outcome.verdict ≡ verdict_of words.update passed
  pub fails : outcome.fails ≡ (is_failure (verdict_of words.update passed) && not words.force_pass)
  pub path : outcome.path ≡ (asked_by words a course.name).path
  pub allowed : Given files (λ m. Allowed words.full (asked_by words a course.name) passed (get m (asked_by words a course.name).path))
  pub stands : Becomes files files' (λ m. step words.update words.force_update (asked_by words a course.name) passed m)
  pub work : IsInWork words a session files files'

-- what stands where an assertion comes to no answer
abbrev pub AssertionStops : RunWords → DocumentError → AssertionView → SessionView → Option Files → Option Files → Type 0
AssertionStops words error.NoRequest a session files files' = ⊥
AssertionStops words (error.Refused kind) a session files files' = IsRefusedWith kind words a session files files'
AssertionStops words (error.FileIo named) a session files files' = FileFails words a session named files files'
AssertionStops words error.WriteFault a session files files' = ⊥
AssertionStops words error.OutOfMemory a session files files' = MemoryFails words a session files files'

-- the document was read as an assertion, of which this holds
pub record OfAssertion (document : List ℕ) (holds : AssertionView → Type 0) : Type 0 where
  pub assertion : AssertionView
  pub reads : ReadsAs document (asserts assertion)
  pub is : holds assertion

-- what is spelled is at most the end of a block, where none is open
abbrev pub HasNoRequest : List ℕ → SessionView → Type 0
HasNoRequest document session = (r : RequestView) → Spells document r → (r ≡ ends) × (is_open session ≡ false)

-- what stands where a document stops the run
abbrev pub StopsAt : RunWords → DocumentError → List ℕ → SessionView → Outside → Outside → Type 0
StopsAt words error.NoRequest document session before after = (after.files ≡ before.files) × (after.written ≡ before.written) × HasNoRequest document session
StopsAt words (error.Refused kind) document session before after =
    (after.written ≡ before.written) × OfAssertion document (λ a. IsRefusedWith kind words a session before.files after.files)
StopsAt words (error.FileIo named) document session before after =
    (after.written ≡ before.written) × OfAssertion document (λ a. FileFails words a session named before.files after.files)
StopsAt words error.WriteFault document session before after = LineFails words document session before after
StopsAt words error.OutOfMemory document session before after =
    (after.written ≡ before.written) × ((after.files ≡ before.files) ⊎ OfAssertion document (λ a. MemoryFails words a session before.files after.files))

-- the documents before one were run, that one stops the run, and the status tells of it
pub record Stopped (status : Status) (words : RunWords) (documents : List (List ℕ)) (session : SessionView) (before after : Outside) : Type 0 where
  pub done : List (List ℕ)
  pub document : List ℕ
  pub later : List (List ℕ)
  pub cut : documents ≡ done ++ document ∷ later
  pub error : DocumentError
  pub status_is : status ≡ status_at (length done + 1) error
  pub answers : List Answer
  pub remembered : SessionView
  pub between : Outside
  pub ran : Ran words done answers session remembered before between
  pub stops : StopsAt words error document remembered between after

-- this holds of the files of the store, or of those that are known of it
abbrev pub IsSeenFrom : Option Files → Option Files → (Option Files → Type 0) → Type 0
IsSeenFrom files known holds = holds files ⊎ holds known

-- whether it is the store that failed
abbrev pub is_store_fault : DocumentError → Bool
is_store_fault (error.FileIo path) = true
is_store_fault _ = false

-- whether it is the sink that failed
abbrev pub is_sink_fault : DocumentError → Bool
is_sink_fault error.WriteFault = true
is_sink_fault _ = false
