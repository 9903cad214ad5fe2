-- How a store over real files writes one: to a helper beside it, which then takes its place.
use Rattle.std.specs.Prelude.{◌≡◌, ◌<◌, ◌⊎◌, ℕ, zero, suc, List, [], ◌∷◌, ◌++◌, Option, None, Some, Result, Ok, Err}
use Rattle.snap_io.specs.Beside.{folder_of, helper_of, WaitsFor}
use Rattle.snap_io.specs.Calls.{History, Step, looks, makes_folders, creates_new, sets_bits, writes, renames, removes}
use Rattle.snap_io.specs.Limits.{most_helpers}
use Rattle.snap_io.specs.Operations.{after, Stopped, LookedAt}
use Rattle.snap_io.specs.declared.call.Answer.{Answer}
use Rattle.snap_io.specs.declared.call.Answer.TheVariants.{Done, Missing, Taken}
use Rattle.snap_io.specs.declared.call.Answer.TheVariants.{Failed as NotDone}
use Rattle.snap_io.specs.declared.outside.StoreError.{StoreError}
use Rattle.snap_io.specs.declared.outside.StoreError.TheVariants.{Failed, OutOfMemory}

-- The bits that a new file is to have: those of the file at its path. Where none is there and the path is that of a pending
-- one, those of its snapshot. None where the system is to choose.
abbrev pub BitsFor : List ℕ → Result (Option ℕ) StoreError → History → History → Type 0
BitsFor path (Ok (Some bits)) before now = LookedAt path (Ok (Some bits)) before now ⊎ ((snapshot : List ℕ) × WaitsFor path snapshot × LookedAt snapshot (Ok (Some bits)) (looks path Missing ∷ before) now)
BitsFor path (Ok None) before now =
    (((snapshot : List ℕ) → WaitsFor path snapshot → ⊥) × LookedAt path (Ok None) before now)
    ⊎ ((snapshot : List ℕ) × WaitsFor path snapshot × LookedAt snapshot (Ok None) (looks path Missing ∷ before) now)
BitsFor path (Err error) before now = LookedAt path (Err error) before now ⊎ ((snapshot : List ℕ) × WaitsFor path snapshot × LookedAt snapshot (Err error) (looks path Missing ∷ before) now)

-- so many names of helpers were tried, and all were taken
abbrev pub tried : List ℕ → Option ℕ → ℕ → History → History
tried path bits zero before = before
tried path bits (suc number) before = creates_new (helper_of path number) bits Taken ∷ tried path bits number before

-- the first helper whose name was free was made
pub record HelperMade (path : List ℕ) (bits : Option ℕ) (helper : List ℕ) (before now : History) : Type 0 where
  pub number : ℕ
  pub within : number < most_helpers
  pub named : helper ≡ helper_of path number
  pub called : now ≡ creates_new helper bits Done ∷ tried path bits number before

-- none was made: one call failed, or all names were taken, or there was no memory for the next name
abbrev pub NoHelper : List ℕ → Option ℕ → StoreError → History → History → Type 0
NoHelper path bits Failed before now = ((number : ℕ) × (now ≡ creates_new (helper_of path number) bits NotDone ∷ tried path bits number before)) ⊎ (now ≡ tried path bits most_helpers before)
NoHelper path bits OutOfMemory before now = (number : ℕ) × (now ≡ tried path bits number before)

abbrev pub setting : Option ℕ → List Step
setting None = []
setting (Some bits) = sets_bits bits ∷ []

-- the helper gets its bits and all bytes, and only then takes the file's place
abbrev pub moving : List ℕ → List ℕ → Option ℕ → List ℕ → List Step
moving helper path bits bytes = setting bits ++ writes bytes ∷ renames helper path ∷ []

-- A helper was made and took the file's place. One that was made and could not take it was taken away; nothing else was.
abbrev pub Replaced : List ℕ → Option ℕ → List ℕ → Result (Unit {0}) StoreError → History → History → Type 0
Replaced path bits bytes (Ok done) before now = (helper : List ℕ) × (made : History) × HelperMade path bits helper before made × (now ≡ after (moving helper path bits bytes) made)
Replaced path bits bytes (Err error) before now =
    NoHelper path bits error before now
    ⊎ ((error ≡ Failed) × (helper : List ℕ) × (made : History) × (last : History) × (answer : Answer) × HelperMade path bits helper before made × Stopped (moving helper path bits bytes) made last × (now ≡ removes helper answer ∷ last))

-- what a write asks of the system: it was looked which bits the file is to have, the folders were made, and the file was replaced
abbrev pub FileWritten : List ℕ → List ℕ → Result (Unit {0}) StoreError → History → History → Type 0
FileWritten path bytes result before now =
    ((result ≡ Err Failed) × BitsFor path (Err Failed) before now)
    ⊎ ((bits : Option ℕ) × (seen : History) × BitsFor path (Ok bits) before seen × (
    ((result ≡ Err Failed) × (now ≡ makes_folders (folder_of path) NotDone ∷ seen))
    ⊎ Replaced path bits bytes result (makes_folders (folder_of path) Done ∷ seen) now
    ))
