-- What a status says of a whole run.
use Rattle.std.specs.Prelude.{◌≡◌, ◌⊎◌, ◌≤◌, ◌<◌, ◌-◌, ◌+◌, ◌∷◌, ◌++◌, ◌^◌, ℕ, Bool, true, false, List, [], length, Option, None, Some}
use Rattle.snap_io.specs.Outside.{Outside, Given, Becomes}
use Rattle.snap_io.specs.Streams.{HoldsFront}
use Rattle.snap_run_requests.specs.Cut.{documents}
use Rattle.snap_run_requests.specs.Requests.{RequestView, Spells}
use Rattle.snap_assert.specs.Session.{SessionView, empty_session}
use Rattle.snap_run.specs.Answers.{Answer, RunWords, some_fails, passed_count, is_taken, remembered_by}
use Rattle.snap_run.specs.Meaning.{meaning, nothing}
use Rattle.snap_run.specs.Runs.{Ran, Stopped}
use Rattle.snap_io_streams.specs.Streams.{TakesAtMost, TakesExactly}
use Rattle.snap_run.specs.declared.status.Status.{Status}
use Rattle.snap_run.specs.declared.tally.Tally.{Tally}
use Rattle.snap_run.specs.declared.status.Status.TheVariants.{AllPassed, SomeFailed, BadWords, BadRequest, Refused, FileIo, ReadFault, WriteFault, OutOfMemory, InputTooLong}

-- `BadWords` exactly where the words ask for nothing
abbrev pub WordsCause : List (List ℕ) → Status → Type 0
WordsCause words BadWords = meaning words ≡ nothing
WordsCause words _ = meaning words ≡ nothing → ⊥

-- a text that was asked for was written, or a part of its front where the sink failed
abbrev pub IsTold : List ℕ → Status → Option (List ℕ) → Option (List ℕ) → Type 0
IsTold text AllPassed written written' = Becomes written written' (λ w. w ++ text)
IsTold text WriteFault written written' = Given written (λ w. HoldsFront text w written')
IsTold text _ written written' = ⊥

abbrev pub IsUnchanged : Outside → Outside → Type 0
IsUnchanged before after = (after.files ≡ before.files) × (after.written ≡ before.written)

-- the run came to its end, and this is counted of its answers
pub record Ended (tally : Tally) (words : RunWords) (docs : List (List ℕ)) (session : SessionView) (before after : Outside) : Type 0 where
  pub answers : List Answer
  pub remembered : SessionView
  pub ran : Ran words docs answers session remembered before after
  pub failing : some_fails words answers ≡ tally.fails
  pub passing : passed_count answers ≡ tally.passed

-- the same, where some answer fails or none does
abbrev pub EndedBy : Bool → RunWords → List (List ℕ) → SessionView → Outside → Outside → Type 0
EndedBy fails words docs session before after = (passed : ℕ) × Ended (record { fails = fails; passed = passed }) words docs session before after

-- the status of a run that came to its end
abbrev pub ended_status : Bool → Status
ended_status true = SomeFailed
ended_status false = AllPassed

-- what each status says of the documents, the files and the lines; before the first document nothing is remembered
abbrev pub RunsTo : Status → RunWords → List (List ℕ) → Outside → Outside → Type 0
RunsTo AllPassed words docs before after = EndedBy false words docs empty_session before after
RunsTo SomeFailed words docs before after = EndedBy true words docs empty_session before after
RunsTo BadWords words docs before after = ⊥
RunsTo (BadRequest n) words docs before after = Stopped (BadRequest n) words docs empty_session before after
RunsTo (Refused n kind) words docs before after = Stopped (Refused n kind) words docs empty_session before after
RunsTo (FileIo n path) words docs before after = Stopped (FileIo n path) words docs empty_session before after
RunsTo ReadFault words docs before after = IsUnchanged before after
RunsTo WriteFault words docs before after = Stopped WriteFault words docs empty_session before after
RunsTo OutOfMemory words docs before after = IsUnchanged before after ⊎ Stopped OutOfMemory words docs empty_session before after
RunsTo InputTooLong words docs before after = IsUnchanged before after

-- the run is over the bytes that the source had left, where it tells them, and else over some bytes
pub record RunsFrom (status : Status) (words : RunWords) (left : Option (List ℕ)) (before after : Outside) : Type 0 where
  pub input : List ℕ
  pub told : (xs : List ℕ) → left ≡ Some xs → input ≡ xs
  pub runs : RunsTo status words (documents input) before after

-- the source was read to its end, within the limit
pub record IsReadToEnd (limit : ℕ) (left left' : Option (List ℕ)) : Type 0 where
  pub within : (xs : List ℕ) → left ≡ Some xs → length xs ≤ limit
  pub nothing_left : (xs : List ℕ) → left ≡ Some xs → left' ≡ Some []

-- by what the source gave: `InputTooLong` where that was the limit and one byte more, and a fault of a read within the
-- limit; where a document was reached the source was read to its end within the limit
abbrev pub LengthCause : ℕ → Option (List ℕ) → Option (List ℕ) → Status → Type 0
LengthCause limit left left' AllPassed = IsReadToEnd limit left left'
LengthCause limit left left' SomeFailed = IsReadToEnd limit left left'
LengthCause limit left left' BadWords = ⊥
LengthCause limit left left' (BadRequest n) = IsReadToEnd limit left left'
LengthCause limit left left' (Refused n kind) = IsReadToEnd limit left left'
LengthCause limit left left' (FileIo n path) = IsReadToEnd limit left left'
LengthCause limit left left' ReadFault = TakesAtMost limit left left'
LengthCause limit left left' WriteFault = IsReadToEnd limit left left'
LengthCause limit left left' OutOfMemory = Unit {0}
LengthCause limit left left' InputTooLong = TakesExactly (limit + 1) left left'

-- a status that tells that the source failed
abbrev pub says_read_fault : Status → Bool
says_read_fault ReadFault = true
says_read_fault _ = false

-- a status that tells that the sink failed
abbrev pub says_write_fault : Status → Bool
says_write_fault WriteFault = true
says_write_fault _ = false

-- a status that tells that the store failed
abbrev pub says_file_fault : Status → Bool
says_file_fault (FileIo n path) = true
says_file_fault _ = false

-- a document spells a request that is taken
pub record SpellsTaken (words : RunWords) (document : List ℕ) (session : SessionView) : Type 0 where
  pub request : RequestView
  pub spells : Spells document request
  pub taken : is_taken words request session ≡ true

-- every document spells a request, and each is taken with what is remembered then
pub data AreSpelled (words : RunWords) : List (List ℕ) → SessionView → Type 0 where
  none : {session : SessionView} → AreSpelled words [] session
  one_more : {d : List ℕ} {ds : List (List ℕ)} {session : SessionView} → (s : SpellsTaken words d session) → AreSpelled words ds (remembered_by words s.request session)
      → AreSpelled words (d ∷ ds) session

-- no fault: the count stands still, and not at its last value
pub record IsSteady (before now : ℕ) : Type 0 where
  pub same : now ≡ before
  pub below_last : before < 2 ^ 64 - 1

-- the run came to its end, unless there was not enough memory
abbrev pub EndsWell : Status → Type 0
EndsWell status = (status ≡ AllPassed) ⊎ ((status ≡ SomeFailed) ⊎ (status ≡ OutOfMemory))
