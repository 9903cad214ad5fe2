-- A store's files: a finite map from the text of a path to bytes.
use Rattle.std.specs.Prelude.{◌≡◌, ◌≢◌, ◌⊎◌, ℕ, Bool, false, List, [], ◌++◌, Option, Some, unwrap_or}
use Rattle.std.specs.Ordering.{nat_cmp}
use Rattle.std.specs.Cmp.Lexicographic.{slice_cmp}
use Rattle.std.specs.FinMap.{FinMap, get, insert, remove}

-- what each path of a store holds
abbrev pub Files : Type 0
Files = FinMap (slice_cmp nat_cmp) (List ℕ)

-- the file at the path has these bytes after what it held, or is these bytes where there was no file
abbrev pub appended : Files → List ℕ → List ℕ → Files
appended m path bytes = insert m path (unwrap_or (get m path) [] ++ bytes)

-- now is known, and holds what m holds at each path but this one
pub record SameBut (path : List ℕ) (m : Files) (now : Option Files) : Type 0 where
  pub files : Files
  pub told : now ≡ Some files
  pub others : (q : List ℕ) → q ≢ path → get files q ≡ get m q

-- now is known: the file at the path is gone or as before, and all others are as before
abbrev pub MayBeGone : List ℕ → Files → Option Files → Type 0
MayBeGone path m now = (now ≡ Some m) ⊎ (now ≡ Some (remove m path))
