-- What each operation of a store over real files asks of the file system, and what its answer says of what was answered.
use Rattle.std.specs.Prelude.{◌≡◌, ◌≤◌, ◌<◌, ◌⊎◌, ⊤, ℕ, Bool, List, [], ◌∷◌, ◌++◌, length, Option, None, Some, Result, Ok, Err}
use Rattle.snap_io.specs.Beside.{folder_of}
use Rattle.snap_io.specs.Calls.{History, Step, looks, looks_at_link, opens, makes_folders, opens_to_append, writes, removes, gives, gives_nothing}
use Rattle.snap_io.specs.Limits.{most_bytes}
use Rattle.snap_io.specs.Told.{bits_told, gone_told}
use Rattle.snap_io.specs.declared.call.Answer.{Answer}
use Rattle.snap_io.specs.declared.call.Answer.TheVariants.{Done, Missing}
use Rattle.snap_io.specs.declared.call.Answer.TheVariants.{Failed as NotDone}
use Rattle.snap_io.specs.declared.outside.StoreError.{StoreError}
use Rattle.snap_io.specs.declared.outside.StoreError.TheVariants.{Failed, OutOfMemory}

-- these calls were made in order, and all were done
abbrev pub after : List Step → History → History
after [] before = before
after (step ∷ steps) before = after steps (step Done ∷ before)

-- they were made in order up to one that failed
abbrev pub Stopped : List Step → History → History → Type 0
Stopped [] before now = ⊥
Stopped (step ∷ steps) before now = (now ≡ step NotDone ∷ before) ⊎ Stopped steps (step Done ∷ before) now

-- they were made in order: all of them where the result is Ok, and else up to one that failed
abbrev pub Made : {T E : Type 0} → List Step → Result T E → History → History → Type 0
Made steps (Ok value) before now = now ≡ after steps before
Made steps (Err error) before now = Stopped steps before now

-- the path was looked at: the bits of the regular file there, or that nothing is there, or a fault
pub record LookedAt (path : List ℕ) (result : Result (Option ℕ) StoreError) (before now : History) : Type 0 where
  pub answer : Answer
  pub seen : bits_told answer ≡ result
  pub called : now ≡ looks path answer ∷ before

-- the same, where a link is no regular file
pub record LookedAtLink (path : List ℕ) (result : Result (Option ℕ) StoreError) (before now : History) : Type 0 where
  pub answer : Answer
  pub seen : bits_told answer ≡ result
  pub called : now ≡ looks_at_link path answer ∷ before

-- since then the open file gave these bytes, in one piece or more
pub data Gave (before : History) : List ℕ → History → Type 0 where
  none_yet : Gave before [] before
  more : (bytes piece : List ℕ) (now : History) → Gave before bytes now → Gave before (bytes ++ piece) (gives piece ∷ now)

-- The open file was read to its end, and was not too long. Else it failed, or gave more.
abbrev pub ReadToEnd : Result (List ℕ) StoreError → History → History → Type 0
ReadToEnd (Ok bytes) before now = (last : History) × Gave before bytes last × (now ≡ gives [] ∷ last) × (length bytes ≤ most_bytes)
ReadToEnd (Err Failed) before now = (bytes : List ℕ) × (((last : History) × Gave before bytes last × (now ≡ gives_nothing ∷ last)) ⊎ (Gave before bytes now × (most_bytes < length bytes)))
ReadToEnd (Err OutOfMemory) before now = ⊤

-- a regular file was opened and read to its end, or nothing is there any more
abbrev pub OpenedAndRead : List ℕ → Result (Option (List ℕ)) StoreError → History → History → Type 0
OpenedAndRead path (Ok None) before now = now ≡ opens path Missing ∷ before
OpenedAndRead path (Ok (Some bytes)) before now = ReadToEnd (Ok bytes) (opens path Done ∷ before) now
OpenedAndRead path (Err Failed) before now = (now ≡ opens path NotDone ∷ before) ⊎ ReadToEnd (Err Failed) (opens path Done ∷ before) now
OpenedAndRead path (Err OutOfMemory) before now = ⊤

-- what a read asks of the system: the path was looked at before it was opened; what is no regular file is never opened
abbrev pub FileRead : List ℕ → Result (Option (List ℕ)) StoreError → History → History → Type 0
FileRead path result before now =
    ((result ≡ Ok None) × LookedAt path (Ok None) before now)
    ⊎ ((result ≡ Err Failed) × LookedAt path (Err Failed) before now)
    ⊎ ((bits : ℕ) × (seen : History) × LookedAt path (Ok (Some bits)) before seen × OpenedAndRead path result seen now)

-- the folders were made, and the bytes went to the end of the file itself
abbrev pub appending : List ℕ → List ℕ → List Step
appending path bytes = makes_folders (folder_of path) ∷ opens_to_append path ∷ writes bytes ∷ []

-- what an append asks of the system: the path was looked at first; what is no regular file, or a link, is never opened
abbrev pub FileAppended : List ℕ → List ℕ → Result (Unit {0}) StoreError → History → History → Type 0
FileAppended path bytes result before now =
    ((result ≡ Err Failed) × LookedAtLink path (Err Failed) before now)
    ⊎ ((bits : Option ℕ) × (seen : History) × LookedAtLink path (Ok bits) before seen × Made (appending path bytes) result seen now)

-- what a removal asks of the system: the file was taken away, or nothing was there, or a folder, which stays; else the call failed
pub record FileRemoved (path : List ℕ) (result : Result Bool StoreError) (before now : History) : Type 0 where
  pub answer : Answer
  pub told : gone_told answer ≡ result
  pub called : now ≡ removes path answer ∷ before
