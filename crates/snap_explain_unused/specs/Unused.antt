-- Which files are unused.
use Rattle.std.specs.Prelude.{◌≡◌, ◌&&◌, ◌-◌, ℕ, Bool, true, not, List, codes, length, take, drop, is_some, if◌then◌else◌}
use Rattle.std.specs.FinMap.{get}
use Rattle.std.specs.Str.{bytes_eq}
use Rattle.snap_io.specs.Files.{Files}
use Rattle.snap_path.specs.Paths.{parent_of}
use Rattle.snap_assert.specs.Removed.{is_among}
use Rattle.snap_assert_place.specs.SnapshotPath.{IsFilePath}

-- the text ends so
abbrev pub ends_with : List ℕ → List ℕ → Bool
ends_with end text = bytes_eq (drop (length text - length end) text) end

-- what stands before so long an end
abbrev pub before_end : List ℕ → List ℕ → List ℕ
before_end end text = take (length text - length end) text

-- the path without the ending of a pending snapshot, where it has that
abbrev pub base_of : List ℕ → List ℕ
base_of path = if ends_with (codes ".new") path then before_end (codes ".new") path else path

-- by its path a file is a snapshot or a pending one, and none of these paths is that of the snapshot
abbrev pub is_left : List (List ℕ) → List ℕ → Bool
is_left asked path = ends_with (codes ".snap") (base_of path) && not (is_among asked (base_of path))

-- one of these paths is in the same folder
pub record IsBeside (asked : List (List ℕ)) (path : List ℕ) : Type 0 where
  pub other : List ℕ
  pub among : is_among asked other ≡ true
  pub same : parent_of other ≡ parent_of path

-- a file is unused: it stands in a folder that these paths touch, it is a snapshot or a pending one, and was not asked for
pub record IsUnused (asked : List (List ℕ)) (m : Files) (path : List ℕ) : Type 0 where
  pub file : IsFilePath path
  pub there : is_some (get m path) ≡ true
  pub beside : IsBeside asked path
  pub left : is_left asked path ≡ true

-- these are the paths of the unused files, and of no others
pub record AreUnused (asked : List (List ℕ)) (m : Files) (paths : List (List ℕ)) : Type 0 where
  pub only : (path : List ℕ) → is_among paths path ≡ true → IsUnused asked m path
  pub each : (path : List ℕ) → IsUnused asked m path → is_among paths path ≡ true
