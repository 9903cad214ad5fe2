-- Files removed one by one.
use Rattle.std.specs.Prelude.{◌≡◌, ℕ, Bool, true, List, [], ◌∷◌, Result, Ok, Err}
use Rattle.std.specs.List.{list_any}
use Rattle.std.specs.Str.{bytes_eq}
use Rattle.std.specs.FinMap.{remove}
use Rattle.snap_io.specs.Files.{Files}
use Rattle.snap_assert.specs.declared.error.AssertError.{AssertError}
use Rattle.snap_assert.specs.declared.error.AssertError.TheVariants.{FileIo}

-- the files without those at these paths
abbrev pub remove_each : List (List ℕ) → Files → Files
remove_each [] m = m
remove_each (p ∷ ps) m = remove_each ps (remove m p)

-- a path is one of these
abbrev pub is_among : List (List ℕ) → List ℕ → Bool
is_among paths q = list_any (bytes_eq q) paths

-- a fault names one of these paths
abbrev pub FaultIsAmong : List (List ℕ) → AssertError → Type 0
FaultIsAmong paths (FileIo named) = is_among paths named ≡ true
FaultIsAmong paths _ = Unit {0}

-- a result whose fault, where it is one, names one of these paths
abbrev pub NamesOneOf : {T : Type 0} → List (List ℕ) → Result T AssertError → Type 0
NamesOneOf paths (Ok value) = Unit {0}
NamesOneOf paths (Err error) = FaultIsAmong paths error
