-- What a run leaves that names unused files.
use Rattle.std.specs.Prelude.{◌≡◌, ◌+◌, ℕ, Bool, true, false, List, [], ◌++◌, Option, Some}
use Rattle.std.specs.List.Sorted.{IsStrictlySortedBy}
use Rattle.std.specs.Cmp.Lexicographic.{slice_cmp}
use Rattle.std.specs.Ordering.{nat_cmp}
use Rattle.snap_io.specs.Files.{Files}
use Rattle.snap_io.specs.Outside.{Given}
use Rattle.snap_io.specs.Streams.{HoldsFront}
use Rattle.snap_io_streams.specs.Streams.{TakesAtMost, TakesExactly, input_limit}
use Rattle.snap_run_requests.specs.Requests.{RequestView}
use Rattle.snap_assert.specs.Removed.{is_among}
use Rattle.snap_assert.specs.Session.{empty_session}
use Rattle.snap_run.specs.Answers.{RunWords}
use Rattle.snap_explain_unused.specs.Asked.{AreAsked, StopsAsking, asked_paths, run_in}
use Rattle.snap_explain_unused.specs.Unused.{AreUnused, is_left}
use Rattle.snap_explain_unused.specs.Lines.{lines_of}
use Rattle.snap_explain_unused.specs.declared.status.UnusedStatus.{UnusedStatus}
use Rattle.snap_explain_unused.specs.declared.status.UnusedStatus.TheVariants.{Nothing, Found, Refused, FileFault, ReadFault, WriteFault, OutOfMemory, StreamTooLong}

-- the exit status
abbrev pub code_of : UnusedStatus → ℕ
code_of Nothing = 0
code_of Found = 1
code_of Refused = 3
code_of FileFault = 5
code_of ReadFault = 6
code_of WriteFault = 7
code_of OutOfMemory = 8
code_of StreamTooLong = 9

-- these are the unused files, each once, in the order of their bytes: none that was asked for, whatever the store tells, and where it
-- tells its files exactly those that are unused
pub record AreNamed (asked : List (List ℕ)) (files : Option Files) (paths : List (List ℕ)) : Type 0 where
  pub left : (path : List ℕ) → is_among paths path ≡ true → is_left asked path ≡ true
  pub unused : Given files (λ m. AreUnused asked m paths)
  pub ascending : IsStrictlySortedBy (slice_cmp nat_cmp) paths

-- the input's documents are requests that a run takes, and this holds of the unused files
pub record Finds (words : RunWords) (files : Option Files) (input : List ℕ) (Holds : List (List ℕ) → Type 0) : Type 0 where
  pub requests : List RequestView
  pub asked : AreAsked words input requests
  pub paths : List (List ℕ)
  pub named : AreNamed (asked_paths words requests empty_session) files paths
  pub holds : Holds paths

-- what a run over the input in this workspace leaves after w: without a stated end nothing is written
abbrev pub UnusedLeaves : List ℕ → Option Files → UnusedStatus → List ℕ → List ℕ → Option (List ℕ) → Type 0
UnusedLeaves workspace files Nothing input w now = Finds (run_in workspace) files input (λ paths. paths ≡ []) × (now ≡ Some w)
UnusedLeaves workspace files Found input w now = Finds (run_in workspace) files input (λ paths. (paths ≡ [] → ⊥) × (now ≡ Some (w ++ lines_of paths)))
UnusedLeaves workspace files Refused input w now = StopsAsking (run_in workspace) input × (now ≡ Some w)
UnusedLeaves workspace files FileFault input w now = now ≡ Some w
UnusedLeaves workspace files ReadFault input w now = now ≡ Some w
UnusedLeaves workspace files WriteFault input w now = Finds (run_in workspace) files input (λ paths. HoldsFront (lines_of paths) w now)
UnusedLeaves workspace files OutOfMemory input w now = now ≡ Some w
UnusedLeaves workspace files StreamTooLong input w now = now ≡ Some w

-- the input is too long exactly where one byte more than the limit was taken
abbrev pub UnusedLength : UnusedStatus → Option (List ℕ) → Option (List ℕ) → Type 0
UnusedLength StreamTooLong left left' = TakesExactly (input_limit + 1) left left'
UnusedLength OutOfMemory left left' = TakesAtMost (input_limit + 1) left left'
UnusedLength _ left left' = TakesAtMost input_limit left left'

-- what a run leaves, where the source and the sink tell what they hold
pub record UnusedRun (workspace : List ℕ) (files : Option Files) (status : UnusedStatus) (left left' written written' : Option (List ℕ)) : Type 0 where
  pub leaves : (input w : List ℕ) → left ≡ Some input → written ≡ Some w → UnusedLeaves workspace files status input w written'
  pub taken : UnusedLength status left left'

-- a status that tells that the source failed
abbrev pub says_read_fault : UnusedStatus → Bool
says_read_fault ReadFault = true
says_read_fault _ = false

-- a status that tells that the sink failed
abbrev pub says_write_fault : UnusedStatus → Bool
says_write_fault WriteFault = true
says_write_fault _ = false

-- a status that tells that the store failed
abbrev pub says_file_fault : UnusedStatus → Bool
says_file_fault FileFault = true
says_file_fault _ = false
