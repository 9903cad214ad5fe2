-- What the program does with its words, its source and its sink.
use Rattle.std.specs.Prelude.{◌≡◌, ◌⊎◌, ◌+◌, ℕ, Bool, true, false, List, [], ◌++◌, Option, None, Some}
use Rattle.snap_io.specs.Streams.{HoldsFront}
use Rattle.snap_io_streams.specs.Streams.{input_limit, TakesAtMost, TakesExactly}
use Rattle.snap_io_streams.specs.declared.streams.ReadError.{ReadError}
use Rattle.snap_io_streams.specs.declared.streams.ReadError.TheVariants as r
use Rattle.snap_io_words.specs.Asked.{text_asked}
use Rattle.snap_front.specs.Describe.{code_of}
use Rattle.snap_front.specs.Front.{IsAnswer, HasNoAnswer}
use Rattle.snap_front.specs.declared.front_error.FrontError.{FrontError}
use Rattle.snap_front.specs.declared.front_error.FrontError.TheVariants as e
use Rattle.snap_front.specs.declared.status.FrontStatus.{FrontStatus}
use Rattle.snap_front.specs.declared.status.FrontStatus.TheVariants.{Done, Failed, ReadFault, WriteFault, InputTooLong, OutOfMemory}
use Rattle.snap_front.specs.declared.usage.TheConstants.{USAGE, VERSION}

-- the text that the words ask for, where they ask for one
abbrev pub asked_of : List (List ℕ) → Option (List ℕ)
asked_of words = text_asked USAGE.now VERSION.now words

-- a text that was asked for was written, or a part of its front where the sink failed
abbrev pub IsTold : List ℕ → FrontStatus → Option (List ℕ) → Option (List ℕ) → Type 0
IsTold text Done written written' = (w : List ℕ) → written ≡ Some w → written' ≡ Some (w ++ text)
IsTold text WriteFault written written' = (w : List ℕ) → written ≡ Some w → HoldsFront text w written'
IsTold text _ written written' = ⊥

-- the answer was written after w
pub record IsWritten (words : List (List ℕ)) (input w : List ℕ) (now : Option (List ℕ)) : Type 0 where
  pub out : List ℕ
  pub answer : IsAnswer words input out
  pub told : now ≡ Some (w ++ out)

-- a front of the answer was
pub record IsBegun (words : List (List ℕ)) (input w : List ℕ) (now : Option (List ℕ)) : Type 0 where
  pub out : List ℕ
  pub answer : IsAnswer words input out
  pub part : HoldsFront out w now

-- there is no answer to the whole input, and not since memory is out; nothing was written
abbrev pub IsFailure : List (List ℕ) → List ℕ → FrontError → Type 0
IsFailure words input e.OutOfMemory = ⊥
IsFailure words input error = HasNoAnswer words input error

-- what a run over the input leaves after w
abbrev pub Leaves : List (List ℕ) → FrontStatus → List ℕ → List ℕ → Option (List ℕ) → Type 0
Leaves words Done input w now = IsWritten words input w now
Leaves words (Failed error) input w now = IsFailure words input error × (now ≡ Some w)
Leaves words ReadFault input w now = now ≡ Some w
Leaves words WriteFault input w now = IsBegun words input w now
Leaves words InputTooLong input w now = now ≡ Some w
Leaves words OutOfMemory input w now = now ≡ Some w

-- the same of a source and a sink, where both tell what they hold
abbrev pub LeavesOf : List (List ℕ) → FrontStatus → Option (List ℕ) → Option (List ℕ) → Option (List ℕ) → Type 0
LeavesOf words status left before now = (input w : List ℕ) → left ≡ Some input → before ≡ Some w → Leaves words status input w now

abbrev pub is_input_too_long : FrontStatus → Bool
is_input_too_long InputTooLong = true
is_input_too_long _ = false

-- a run that read its input to the end
abbrev pub has_read : FrontStatus → Bool
has_read Done = true
has_read (Failed error) = true
has_read WriteFault = true
has_read _ = false

-- the input is too long exactly where the source gave more than the limit, and then it gave one byte more; without memory it may have
-- given as many
abbrev pub LengthCause : FrontStatus → Option (List ℕ) → Option (List ℕ) → Type 0
LengthCause InputTooLong left left' = TakesExactly (input_limit + 1) left left'
LengthCause OutOfMemory left left' = TakesAtMost (input_limit + 1) left left'
LengthCause _ left left' = TakesAtMost input_limit left left'

-- the status of an input that was not read
abbrev pub status_of : ReadError → FrontStatus
status_of r.Fault = ReadFault
status_of r.TooLong = InputTooLong
status_of r.OutOfMemory = OutOfMemory

-- at the end all was read
abbrev pub EndIf : Bool → Option (List ℕ) → Option (List ℕ) → Type 0
EndIf true left left' = (input : List ℕ) → left ≡ Some input → left' ≡ Some []
EndIf false left left' = Unit {0}

-- a status that tells that the source failed
abbrev pub says_read_fault : FrontStatus → Bool
says_read_fault ReadFault = true
says_read_fault _ = false

-- a status that tells that the sink failed
abbrev pub says_write_fault : FrontStatus → Bool
says_write_fault WriteFault = true
says_write_fault _ = false

-- the run of these words ended with this status
pub record IsRunOf (words : List (List ℕ)) (status : FrontStatus) (left left' written written' : Option (List ℕ)) : Type 0 where
  pub told : (text : List ℕ) → asked_of words ≡ Some text → IsTold text status written written' × (left' ≡ left)
  pub leaves : asked_of words ≡ None → LeavesOf words status left written written'
  pub taken : LengthCause status left left'
  pub end : asked_of words ≡ None → EndIf (has_read status) left left'

-- nothing was begun: nothing was read or written
pub record IsNotBegun (left left' written written' : Option (List ℕ)) : Type 0 where
  pub left_same : left' ≡ left
  pub written_same : written' ≡ written

-- the run of the words, where all arguments are texts, or no memory for them; and else wrong words. Nothing is begun but by the run
abbrev pub RunOfArguments : Option (List (List ℕ)) → FrontStatus → Option (List ℕ) → Option (List ℕ) → Option (List ℕ) → Option (List ℕ) → Type 0
RunOfArguments None status left left' written written' = ((status ≡ Failed e.BadWords) ⊎ (status ≡ OutOfMemory)) × IsNotBegun left left' written written'
RunOfArguments (Some words) status left left' written written' =
    IsRunOf words status left left' written written' ⊎ ((status ≡ OutOfMemory) × IsNotBegun left left' written written')

-- how the program ended: with the exit status of one status, which is that of the run of its arguments
pub record Ends (code : ℕ) (words : Option (List (List ℕ))) (left left' written written' : Option (List ℕ)) : Type 0 where
  pub status : FrontStatus
  pub code_is : code ≡ code_of status
  pub run : RunOfArguments words status left left' written written'
