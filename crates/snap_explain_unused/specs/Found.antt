-- The unused files that were found so far.
use Rattle.std.specs.Prelude.{◌≡◌, ◌⊎◌, ◌&&◌, ◌||◌, ℕ, true, List, Option, is_some}
use Rattle.std.specs.FinMap.{get}
use Rattle.std.specs.Str.{bytes_eq}
use Rattle.snap_io.specs.Files.{Files}
use Rattle.snap_io.specs.Listed.{AreNames}
use Rattle.snap_io.specs.Outside.{Given}
use Rattle.snap_path.specs.Paths.{joined, parent_of}
use Rattle.snap_assert.specs.Removed.{is_among}
use Rattle.snap_assert_place.specs.SnapshotPath.{IsFilePath}
use Rattle.snap_explain_unused.specs.Unused.{AreUnused, is_left}

-- the path came to the others where it is left
abbrev pub KeepsOne : List (List ℕ) → List ℕ → List (List ℕ) → List (List ℕ) → Type 0
KeepsOne asked path old now = (q : List ℕ) → is_among now q ≡ ((bytes_eq path q && is_left asked path) || is_among old q)

-- a path is that of one of these names in the folder, and left
pub record IsLeftIn (asked : List (List ℕ)) (folder : List ℕ) (names : List (List ℕ)) (q : List ℕ) : Type 0 where
  pub name : List ℕ
  pub among : is_among names name ≡ true
  pub at : joined folder name ≡ q
  pub left : is_left asked q ≡ true

-- those of these names that are left came to the others
pub record Adds (asked : List (List ℕ)) (folder : List ℕ) (names old now : List (List ℕ)) : Type 0 where
  pub still : (q : List ℕ) → is_among old q ≡ true → is_among now q ≡ true
  pub from : (q : List ℕ) → is_among now q ≡ true → (is_among old q ≡ true) ⊎ IsLeftIn asked folder names q
  pub all : (q : List ℕ) → IsLeftIn asked folder names q → is_among now q ≡ true

-- those of the folder's files that are left came to the others
pub record LooksInto (asked : List (List ℕ)) (folder : List ℕ) (files : Option Files) (old now : List (List ℕ)) : Type 0 where
  pub names : List (List ℕ)
  pub are : Given files (λ m. AreNames m folder names)
  pub adds : Adds asked folder names old now

-- a file that is left stands in one of these folders
pub record StandsIn (asked folders : List (List ℕ)) (m : Files) (q : List ℕ) : Type 0 where
  pub file : IsFilePath q
  pub there : is_some (get m q) ≡ true
  pub within : is_among folders (parent_of q) ≡ true
  pub left : is_left asked q ≡ true

-- what was found in these folders is what is left there
pub record HoldsOf (asked folders : List (List ℕ)) (m : Files) (unused : List (List ℕ)) : Type 0 where
  pub only : (q : List ℕ) → is_among unused q ≡ true → StandsIn asked folders m q
  pub each : (q : List ℕ) → StandsIn asked folders m q → is_among unused q ≡ true

-- what is found is left, and where files are told it is what is left in these folders
pub record IsFound (asked folders : List (List ℕ)) (files : Option Files) (unused : List (List ℕ)) : Type 0 where
  pub left : (q : List ℕ) → is_among unused q ≡ true → is_left asked q ≡ true
  pub holds : Given files (λ m. HoldsOf asked folders m unused)

-- the folder of the path came to the others, with what is left in it
pub record LooksBeside (asked : List (List ℕ)) (path : List ℕ) (files : Option Files) (folders folders' unused unused' : List (List ℕ)) : Type 0 where
  pub grows : (d : List ℕ) → is_among folders' d ≡ (bytes_eq (parent_of path) d || is_among folders d)
  pub found : IsFound asked folders files unused → IsFound asked folders' files unused'

-- what is found beside these paths is left, and where files are told it is what is unused
pub record FindsIn (asked : List (List ℕ)) (files : Option Files) (unused : List (List ℕ)) : Type 0 where
  pub left : (q : List ℕ) → is_among unused q ≡ true → is_left asked q ≡ true
  pub unused_are : Given files (λ m. AreUnused asked m unused)
