-- How many bytes files have, and where a store fails in reading them.
use Rattle.std.specs.Prelude.{◌≡◌, ◌+◌, ◌≤◌, ℕ, Bool, true, false, List, [], ◌∷◌, length, unwrap_or}
use Rattle.std.specs.FinMap.{get}
use Rattle.snap_io.specs.Files.{Files}
use Rattle.snap_demo.specs.Paths.{demo_path}
use Rattle.snap_demo.specs.declared.held.HeldError.{HeldError}
use Rattle.snap_demo.specs.declared.held.HeldError.TheVariants.{FileIo, OutOfMemory}

-- the bytes of the files at these paths, added up; a file that is not there has none
abbrev pub bytes_held : List (List ℕ) → Files → ℕ
bytes_held [] m = 0
bytes_held (path ∷ paths) m = length (unwrap_or (get m path) []) + bytes_held paths m

-- whether it is the store that failed
abbrev pub is_held_fault : HeldError → Bool
is_held_fault (FileIo request path) = true
is_held_fault OutOfMemory = false

-- a fault tells of this request, which is counted from 0 here, and of its path
abbrev pub IsAtRequest : ℕ → HeldError → Type 0
IsAtRequest i (FileIo request path) = (request ≡ i + 1) × (path ≡ demo_path i)
IsAtRequest i OutOfMemory = Unit {0}

-- a fault tells of one of so many requests, and of its path
abbrev pub IsOfRequests : ℕ → HeldError → Type 0
IsOfRequests count error = (i : ℕ) × ((i + 1 ≤ count) × IsAtRequest i error)
