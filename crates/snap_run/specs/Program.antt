-- What the system sees of a run.
use Rattle.std.specs.Prelude.{◌≡◌, ◌⊎◌, ℕ, Bool, true, false, List, [], ◌∷◌, ◌++◌, Option, None, Some, encode_utf8_all}
use Rattle.snap_io.specs.Outside.{Outside, Given}
use Rattle.snap_io.specs.Streams.{HoldsFront}
use Rattle.snap_demo.specs.declared.words.DemoWords.{DemoWords}
use Rattle.snap_run.specs.Answers.{RunWords}
use Rattle.snap_run.specs.Demonstrations.{Demonstrates}
use Rattle.snap_run.specs.Describe.{code_of, description}
use Rattle.snap_run.specs.Meaning.{meaning, a_text, a_run, a_demonstration, nothing}
use Rattle.snap_run.specs.Status.{WordsCause, IsTold, IsUnchanged, RunsFrom, IsSteady}
use Rattle.snap_run.specs.declared.status.Status.{Status}
use Rattle.snap_run.specs.declared.status.Status.TheVariants.{AllPassed, SomeFailed, BadRequest, Refused, FileIo, OutOfMemory}

-- the words of a command line, and none where some argument is no text
abbrev pub words_or_none : Option (List (List ℕ)) → List (List ℕ)
words_or_none None = []
words_or_none (Some words) = words

-- what a status says to standard error: nothing where all was answered, and else a line
abbrev pub message : Status → List ℕ
message AllPassed = []
message SomeFailed = []
message status = encode_utf8_all (description status ++ 10 ∷ [])

-- whether the status tells of a document, so that its message is made in memory
abbrev pub tells_document : Status → Bool
tells_document (BadRequest n) = true
tells_document (Refused n kind) = true
tells_document (FileIo n path) = true
tells_document _ = false

-- what standard error was told: the message, or a part of its front where the sink failed; or nothing, where there was no memory for
-- the message of a document
pub record IsSaid (status : Status) (before now : ℕ) (written written' : Option (List ℕ)) : Type 0 where
  pub front : Given written (λ w. HoldsFront (message status) w written')
  pub whole : (w : List ℕ) → written ≡ Some w → IsSteady before now → (written' ≡ Some (w ++ message status)) ⊎ ((tells_document status ≡ true) × (written' ≡ Some w))

-- what these words ask for ended with this status
pub record IsRunOf (words : List (List ℕ)) (status : Status) (left : Option (List ℕ)) (before after : Outside) : Type 0 where
  pub words_cause : WordsCause words status
  pub told : (text : List ℕ) → meaning words ≡ a_text text → (after.files ≡ before.files) × IsTold text status before.written after.written
  pub runs : (said : RunWords) → meaning words ≡ a_run said → RunsFrom status said left before after
  pub demonstrated : (said : DemoWords) → meaning words ≡ a_demonstration said → Demonstrates status said before after
  pub unchanged : meaning words ≡ nothing → IsUnchanged before after

-- there was no memory for the words, and nothing was begun
pub record IsNotBegun (status : Status) (before after : Outside) : Type 0 where
  pub memory : status ≡ OutOfMemory
  pub files_same : after.files ≡ before.files
  pub written_same : after.written ≡ before.written

-- how the program ended: with the exit status of one status, which is that of the run of its words
pub record Ends (code : ℕ) (words : List (List ℕ)) (left : Option (List ℕ)) (before after : Outside)
    (faults faults' : ℕ) (errors errors' : Option (List ℕ)) : Type 0 where
  pub status : Status
  pub code_is : code ≡ code_of status
  pub run : IsRunOf words status left before after ⊎ IsNotBegun status before after
  pub said : IsSaid status faults faults' errors errors'
