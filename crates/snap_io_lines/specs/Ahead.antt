-- What is to come of a source whose bytes are partly held.
use Rattle.std.specs.Prelude.{◌≡◌, ◌+◌, ◌<◌, ℕ, Bool, true, false, List, [], ◌∷◌, ◌++◌, length, Option, Some, Result, Ok, Err}
use Rattle.snap_str.specs.Cut.{Lacks}
use Rattle.snap_io.specs.Streams.{GivesFront}
use Rattle.snap_io_lines.specs.declared.lines.LineEnd.{LineEnd}
use Rattle.snap_io_lines.specs.declared.lines.LineEnd.TheVariants.{Ended, Last}
use Rattle.snap_io_lines.specs.declared.lines.LineError.{LineError}
use Rattle.snap_io_lines.specs.declared.lines.LineError.TheVariants.{Fault, LineTooLong, InputTooLong, OutOfMemory}

-- the most bytes of a line before its end, and of a whole input
abbrev pub line_limit : ℕ
line_limit = 1048576

abbrev pub input_limit : ℕ
input_limit = 1099511627776

-- all is what is held and then what the source has left
pub record IsAhead (held : List ℕ) (left : Option (List ℕ)) (all : List ℕ) : Type 0 where
  pub rest : List ℕ
  pub told : left ≡ Some rest
  pub is : all ≡ held ++ rest

-- of the budget so many bytes were taken off the front of what the source had left
pub record Spends (budget budget' : ℕ) (all : List ℕ) (left : Option (List ℕ)) : Type 0 where
  pub front : List ℕ
  pub given : GivesFront all front left
  pub size : length front + budget' ≡ budget

-- the same of a source, where it tells what it has left
abbrev pub SpendsOf : ℕ → ℕ → Option (List ℕ) → Option (List ℕ) → Type 0
SpendsOf budget budget' left left' = (xs : List ℕ) → left ≡ Some xs → Spends budget budget' xs left'

-- the line and its end were taken off what is to come
pub record IsEndedLine (line all held : List ℕ) (left : Option (List ℕ)) : Type 0 where
  pub later : List ℕ
  pub is : all ≡ line ++ 10 ∷ later
  pub ahead : IsAhead held left later

-- the line is all that was to come
pub record IsLastLine (line all held : List ℕ) (left : Option (List ℕ)) : Type 0 where
  pub is : all ≡ line
  pub ahead : IsAhead held left []

-- the line was taken from what is ahead, with its end or as the last one
abbrev pub TakesLine : LineEnd → List ℕ → List ℕ → List ℕ → Option (List ℕ) → Type 0
TakesLine Ended line all held left = IsEndedLine line all held left
TakesLine Last line all held left = IsLastLine line all held left

-- more bytes than a line may have come before an end
pub record IsLong (all : List ℕ) : Type 0 where
  pub front : List ℕ
  pub rest : List ℕ
  pub is : all ≡ front ++ rest
  pub unbroken : Lacks 10 front
  pub long : line_limit < length front

-- an error that tells that the source failed
abbrev pub is_read_fault : LineError → Bool
is_read_fault Fault = true
is_read_fault LineTooLong = false
is_read_fault InputTooLong = false
is_read_fault OutOfMemory = false

-- what is left of the budget: nothing only where the input is too long
abbrev pub BudgetEnd : {T : Type 0} → Result T LineError → ℕ → Type 0
BudgetEnd (Ok done) budget = 0 < budget
BudgetEnd (Err InputTooLong) budget = budget ≡ 0
BudgetEnd (Err Fault) budget = 0 < budget
BudgetEnd (Err LineTooLong) budget = 0 < budget
BudgetEnd (Err OutOfMemory) budget = 0 < budget

-- a piece of what is held and the line's end after it were handed out
pub record HandsPiece (line line' held held' : List ℕ) : Type 0 where
  pub piece : List ℕ
  pub is : held ≡ piece ++ 10 ∷ held'
  pub unbroken : Lacks 10 piece
  pub added : line' ≡ line ++ piece

-- all that is held was handed out, and no line ends in it
pub record HandsAll (line line' held held' : List ℕ) : Type 0 where
  pub unbroken : Lacks 10 held
  pub none_left : held' ≡ []
  pub added : line' ≡ line ++ held

abbrev pub HandsOut : Bool → List ℕ → List ℕ → List ℕ → List ℕ → Type 0
HandsOut true line line' held held' = HandsPiece line line' held held'
HandsOut false line line' held held' = HandsAll line line' held held'

-- why nothing was handed out
abbrev pub StopsLine : LineError → List ℕ → List ℕ → Type 0
StopsLine Fault line held = ⊥
StopsLine LineTooLong line held = Lacks 10 line → IsLong (line ++ held)
StopsLine InputTooLong line held = ⊥
StopsLine OutOfMemory line held = Unit {0}

abbrev pub StopsPiece : LineError → ℕ → Type 0
StopsPiece Fault size = ⊥
StopsPiece LineTooLong size = line_limit < size
StopsPiece InputTooLong size = ⊥
StopsPiece OutOfMemory size = Unit {0}
