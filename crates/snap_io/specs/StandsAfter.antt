-- What stands where a list of changes stopped.
use Rattle.std.specs.Prelude.{◌≡◌, ℕ, List, [], ◌∷◌, ◌++◌, false, Option, None, Some}
use Rattle.std.specs.FinMap.{get}
use Rattle.std.specs.List.{list_any}
use Rattle.std.specs.Str.{bytes_eq}
use Rattle.snap_io.specs.Files.{Files}
use Rattle.snap_io.specs.Changes.{Change, path_in, all_changed, MayLeave}

-- the first of these is in work; nothing is, where there is none
abbrev pub IsInWork : List Change → Files → Option Files → Type 0
IsInWork [] m now = now ≡ Some m
IsInWork (c ∷ cs) m now = MayLeave c m now

-- a fault names the path of the change in work
abbrev pub NamesNext : Option (List ℕ) → List Change → Type 0
NamesNext None rest = Unit {0}
NamesNext (Some named) [] = ⊥
NamesNext (Some named) (c ∷ cs) = named ≡ path_in c

-- the changes before one are done, that one is in work, and none behind it was begun; where a fault stopped them it names its path
pub record StandsAfter (changes : List Change) (named : Option (List ℕ)) (files files' : Option Files) : Type 0 where
  pub done : List Change
  pub rest : List Change
  pub cut : changes ≡ done ++ rest
  pub names : NamesNext named rest
  pub stands : (m : Files) → files ≡ Some m → IsInWork rest (all_changed done m) files'

-- now is known, and the files at the paths of no change are as before
pub record LeavesOthers (changes : List Change) (m : Files) (now : Option Files) : Type 0 where
  pub files : Files
  pub told : now ≡ Some files
  pub others : (q : List ℕ) → list_any (λ c. bytes_eq q (path_in c)) changes ≡ false → get files q ≡ get m q
