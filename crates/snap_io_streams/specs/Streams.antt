-- Reading a whole input.
use Rattle.std.specs.Prelude.{◌≡◌, ◌≤◌, ℕ, List, ◌++◌, length, Bool, true, false, Option, Some}
use Rattle.snap_io.specs.Streams.{GivesFront}
use Rattle.snap_io_streams.specs.declared.streams.ReadError.{ReadError}
use Rattle.snap_io_streams.specs.declared.streams.ReadError.TheVariants.{Fault, TooLong, OutOfMemory}

-- the most bytes that an input may have
abbrev pub input_limit : ℕ
input_limit = 67108864

-- whether an input was not read since its source failed
abbrev pub is_read_fault : ReadError → Bool
is_read_fault Fault = true
is_read_fault TooLong = false
is_read_fault OutOfMemory = false

-- so many bytes were taken off the front of what was left, and added
pub record TakesPiece (count : ℕ) (bytes bytes' : List ℕ) (left left' : Option (List ℕ)) : Type 0 where
  pub piece : List ℕ
  pub size : length piece ≡ count
  pub added : bytes' ≡ bytes ++ piece
  pub given : (xs : List ℕ) → left ≡ Some xs → GivesFront xs piece left'

-- a front of at most so many bytes is gone, and the rest is left
pub record LosesAtMost (most : ℕ) (all : List ℕ) (left : Option (List ℕ)) : Type 0 where
  pub front : List ℕ
  pub given : GivesFront all front left
  pub within : length front ≤ most

-- at most so many bytes were taken off the front of what was left
abbrev pub TakesAtMost : ℕ → Option (List ℕ) → Option (List ℕ) → Type 0
TakesAtMost most left left' = (xs : List ℕ) → left ≡ Some xs → LosesAtMost most xs left'

-- a front of so many bytes is gone, no more and no fewer, and the rest is left
pub record LosesExactly (count : ℕ) (all : List ℕ) (left : Option (List ℕ)) : Type 0 where
  pub front : List ℕ
  pub given : GivesFront all front left
  pub size : length front ≡ count

-- so many bytes were taken off the front of what was left, no more and no fewer
abbrev pub TakesExactly : ℕ → Option (List ℕ) → Option (List ℕ) → Type 0
TakesExactly count left left' = (xs : List ℕ) → left ≡ Some xs → LosesExactly count xs left'
