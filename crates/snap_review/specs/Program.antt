-- What the program does with its words, its sink and its store.
use Rattle.std.specs.Prelude.{◌≡◌, ◌⊎◌, ℕ, List, ◌++◌, Option, None, Some}
use Rattle.snap_io.specs.Files.{Files}
use Rattle.snap_io.specs.Streams.{HoldsFront}
use Rattle.snap_io_words.specs.Asked.{text_asked}
use Rattle.snap_review.specs.Describe.{code_of}
use Rattle.snap_review.specs.Ends.{ReviewOf}
use Rattle.snap_review.specs.Wanted.{wanted_by}
use Rattle.snap_review.specs.declared.status.ReviewStatus.{ReviewStatus}
use Rattle.snap_review.specs.declared.status.ReviewStatus.TheVariants.{Done, BadWords, WriteFault, OutOfMemory}
use Rattle.snap_review.specs.declared.usage.TheConstants.{USAGE, VERSION}

-- the text that the words ask for, where they ask for one
abbrev pub asked_of : List (List ℕ) → Option (List ℕ)
asked_of words = text_asked USAGE.now VERSION.now words

-- a text that was asked for was written, or a part of its front where the sink failed
abbrev pub IsTold : List ℕ → ReviewStatus → Option (List ℕ) → Option (List ℕ) → Type 0
IsTold text Done written written' = (w : List ℕ) → written ≡ Some w → written' ≡ Some (w ++ text)
IsTold text WriteFault written written' = (w : List ℕ) → written ≡ Some w → HoldsFront text w written'
IsTold text _ written written' = ⊥

-- the run of these words ended with this status
pub record IsRunOfWords (words : List (List ℕ)) (status : ReviewStatus) (files files' : Option Files) (written written' : Option (List ℕ)) : Type 0 where
  pub told : (text : List ℕ) → asked_of words ≡ Some text → IsTold text status written written' × (files' ≡ files)
  pub end : asked_of words ≡ None → ReviewOf (wanted_by words) status files files' written written'

-- nothing was begun: no file was touched, and nothing written
pub record IsNotBegun (files files' : Option Files) (written written' : Option (List ℕ)) : Type 0 where
  pub files_same : files' ≡ files
  pub written_same : written' ≡ written

-- the run of the words, where all arguments are texts, or no memory for them; and else wrong words. Nothing is begun but by the run
abbrev pub RunOfArguments : Option (List (List ℕ)) → ReviewStatus → Option Files → Option Files → Option (List ℕ) → Option (List ℕ) → Type 0
RunOfArguments None status files files' written written' = ((status ≡ BadWords) ⊎ (status ≡ OutOfMemory)) × IsNotBegun files files' written written'
RunOfArguments (Some words) status files files' written written' =
    IsRunOfWords words status files files' written written' ⊎ ((status ≡ OutOfMemory) × IsNotBegun files files' written written')

-- how the program ended: with the exit status of one status, which is that of the run of its arguments
pub record Ends (code : ℕ) (words : Option (List (List ℕ))) (files files' : Option Files) (written written' : Option (List ℕ)) : Type 0 where
  pub status : ReviewStatus
  pub code_is : code ≡ code_of status
  pub run : RunOfArguments words status files files' written written'
