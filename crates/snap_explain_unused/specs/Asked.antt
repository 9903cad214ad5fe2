-- The paths that the requests of a stream ask for.
use Rattle.std.specs.Prelude.{◌≡◌, ◌⊎◌, ℕ, false, List, [], ◌∷◌, ◌++◌, Result, Ok, Err}
use Rattle.snap_run_requests.specs.Cut.{documents}
use Rattle.snap_run_requests.specs.Faults.{IsReason}
use Rattle.snap_run_requests.specs.Requests.{AssertionView, RequestView, asserts, begins, ends, ReadsAs, Reads, Spells}
use Rattle.snap_run_requests.specs.declared.fault.Reason.{Reason}
use Rattle.snap_assert.specs.Courses.{Course, Refused, course_of}
use Rattle.snap_assert.specs.Session.{SessionView, empty_session}
use Rattle.snap_assert_settings.specs.declared.config.Update.TheVariants.{NoUpdate}
use Rattle.snap_run.specs.Answers.{RunWords, assertion_by, asked_by, is_taken, AreTaken, remembered_by, remembered_after, words_at, no_flags}

-- a run that writes nothing in this workspace
abbrev pub run_in : List ℕ → RunWords
run_in workspace = words_at workspace NoUpdate no_flags

-- the path of an assertion's snapshot, under the name of its course
abbrev pub course_path : RunWords → AssertionView → Result Course Refused → List (List ℕ)
course_path words a (Ok course) = (asked_by words a course.name).path ∷ []
course_path words a (Err refused) = []

-- the path that a request asks for, by what is remembered; the begin and the end of a block ask for none
abbrev pub path_by : RunWords → RequestView → SessionView → List (List ℕ)
path_by words (asserts a) session = course_path words a (course_of (assertion_by words a) session)
path_by words begins session = []
path_by words ends session = []

-- the paths that requests ask for, of each in turn
abbrev pub asked_paths : RunWords → List RequestView → SessionView → List (List ℕ)
asked_paths words [] session = []
asked_paths words (r ∷ more) session = path_by words r session ++ asked_paths words more (remembered_by words r session)

-- the input's documents are these requests, and a run takes each of them
pub record AreAsked (words : RunWords) (input : List ℕ) (requests : List RequestView) : Type 0 where
  pub reads : Reads (documents input) requests
  pub taken : AreTaken words requests empty_session

-- the document is no request for a reason that holds of it: it spells none
pub record IsNone (document : List ℕ) : Type 0 where
  pub why : Reason
  pub holds : IsReason document why
  pub unspelled : (r : RequestView) → Spells document r → ⊥

-- the document is a request that a run doesn't take, by what is remembered
pub record IsUntaken (words : RunWords) (document : List ℕ) (session : SessionView) : Type 0 where
  pub request : RequestView
  pub reads : ReadsAs document request
  pub refused : is_taken words request session ≡ false

-- after documents that a run takes comes one that is no request, or one that it refuses
pub record StopsAsking (words : RunWords) (input : List ℕ) : Type 0 where
  pub front : List (List ℕ)
  pub document : List ℕ
  pub later : List (List ℕ)
  pub requests : List RequestView
  pub is : documents input ≡ front ++ document ∷ later
  pub reads : Reads front requests
  pub taken : AreTaken words requests empty_session
  pub stops : IsNone document ⊎ IsUntaken words document (remembered_after words requests empty_session)
