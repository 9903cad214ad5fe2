-- What a demonstration leaves and says.
use Rattle.std.specs.Prelude.{◌≡◌, ◌⊎◌, ◌+◌, ◌≤◌, ◌++◌, ℕ, List, Option, None, Some, encode_utf8_all}
use Rattle.snap_io.specs.Files.{Files}
use Rattle.snap_io.specs.Outside.{Outside, outside, Given, Becomes}
use Rattle.snap_io.specs.Streams.{HoldsFront}
use Rattle.snap_assert.specs.Session.{SessionView, empty_session}
use Rattle.snap_demo.specs.Answers.{demo_lines}
use Rattle.snap_demo.specs.Held.{bytes_held}
use Rattle.snap_demo.specs.Paths.{demo_path, demo_paths}
use Rattle.snap_demo.specs.Stream.{demo_documents}
use Rattle.snap_demo.specs.declared.words.DemoWords.{DemoWords}
use Rattle.snap_run.specs.Answers.{Answer, demo_run, passed_count}
use Rattle.snap_run.specs.Runs.{Ran, Stopped}
use Rattle.snap_run.specs.declared.status.Status.{Status}
use Rattle.snap_run.specs.declared.status.Status.TheVariants.{AllPassed, FileIo, WriteFault, OutOfMemory}

-- these documents were run in a new session and without lines, and so many passed
pub record RanOnce (passed : ℕ) (docs : List (List ℕ)) (files files' : Option Files) : Type 0 where
  pub answers : List Answer
  pub remembered : SessionView
  pub ran : Ran demo_run docs answers empty_session remembered (outside files None) (outside files' None)
  pub counted : passed ≡ passed_count answers

-- they were run, and once more over what that left; so many passed the second time
pub record RanTwice (passed : ℕ) (docs : List (List ℕ)) (files files' : Option Files) : Type 0 where
  pub before : ℕ
  pub between : Option Files
  pub first : RanOnce before docs files between
  pub second : RanOnce passed docs between files'

-- where the files are told, those of so many requests have this many bytes
abbrev pub IsHeldIn : ℕ → ℕ → Option Files → Type 0
IsHeldIn total count files = (m : Files) → files ≡ Some m → total ≡ bytes_held (demo_paths count) m

-- the lines tell of so many requests, so many passed ones, and the bytes of the files
pub record TellsHeld (lines : List ℕ) (count passed : ℕ) (files : Option Files) : Type 0 where
  pub total : ℕ
  pub held : IsHeldIn total count files
  pub lines_are : lines ≡ demo_lines count passed total

-- the requests were run twice, and the lines tell of that and of the files as they then stand
pub record IsDemonstrated (words : DemoWords) (lines : List ℕ) (files files' : Option Files) : Type 0 where
  pub passed : ℕ
  pub twice : RanTwice passed (demo_documents words.seed words.count) files files'
  pub told : TellsHeld lines words.count passed files'

-- one of the runs stopped with this status
abbrev pub StopsRun : Status → List (List ℕ) → Option Files → Option Files → Type 0
StopsRun status docs files files' = Stopped status demo_run docs empty_session (outside files None) (outside files' None)

-- a fault tells of one of so many requests, counted from 1; no other status but out of memory ends a demonstration early
abbrev pub IsDemoStatus : ℕ → Status → Type 0
IsDemoStatus count (FileIo n path) = (1 ≤ n) × (n ≤ count)
IsDemoStatus count OutOfMemory = Unit {0}
IsDemoStatus count _ = ⊥

-- the store failed to read the file of one of so many requests, or memory was out
abbrev pub ReadingStops : ℕ → Status → Type 0
ReadingStops count (FileIo n path) = (i : ℕ) × ((i + 1 ≤ count) × ((n ≡ i + 1) × (path ≡ demo_path i)))
ReadingStops count OutOfMemory = Unit {0}
ReadingStops count _ = ⊥

-- the first run stopped, or the second one over what the first left, or neither, and the files were not read
pub data StopsIn (status : Status) (words : DemoWords) (files files' : Option Files) : Type 0 where
  in_first : StopsRun status (demo_documents words.seed words.count) files files' → StopsIn status words files files'
  in_second : {passed : ℕ} → (between : Option Files) → RanOnce passed (demo_documents words.seed words.count) files between → StopsRun status (demo_documents words.seed words.count) between files'
      → StopsIn status words files files'
  after_both : {passed : ℕ} → RanTwice passed (demo_documents words.seed words.count) files files' → ReadingStops words.count status → StopsIn status words files files'

-- what stands where a demonstration stops before its lines
abbrev pub DemoStops : Status → DemoWords → Option Files → Option Files → Type 0
DemoStops (FileIo n path) words files files' = IsDemoStatus words.count (FileIo n path) × StopsIn (FileIo n path) words files files'
DemoStops OutOfMemory words files files' = (files' ≡ files) ⊎ StopsIn OutOfMemory words files files'
DemoStops status words files files' = ⊥

-- the lines were made, and this was done with their bytes
abbrev pub Tells : DemoWords → Option Files → Option Files → (List ℕ → Type 0) → Type 0
Tells words files files' done = (lines : List ℕ) × (IsDemonstrated words lines files files' × done (encode_utf8_all lines))

-- what each status says of a demonstration: its lines are written once all else is done
abbrev pub Demonstrates : Status → DemoWords → Outside → Outside → Type 0
Demonstrates AllPassed words before after = Tells words before.files after.files (λ bytes. Becomes before.written after.written (λ w. w ++ bytes))
Demonstrates WriteFault words before after = Tells words before.files after.files (λ bytes. Given before.written (λ w. HoldsFront bytes w after.written))
Demonstrates status words before after = (after.written ≡ before.written) × DemoStops status words before.files after.files
