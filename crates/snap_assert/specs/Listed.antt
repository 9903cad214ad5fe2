-- What is known of a store whose folders were listed.
use Rattle.std.specs.Prelude.{◌≡◌, ℕ, true, List, Option, Some, is_some}
use Rattle.std.specs.FinMap.{get}
use Rattle.snap_io.specs.Files.{Files}
use Rattle.snap_path.specs.Paths.{parent_of}
use Rattle.snap_assert_place.specs.SnapshotPath.{IsFilePath}
use Rattle.snap_assert.specs.Removed.{is_among}
use Rattle.snap_assert.specs.Steps.{is_stray, pending_path}
use Rattle.snap_assert.specs.declared.listed.Listed.{Listed}

-- each path that a payload may have left behind beside a snapshot in a folder that was listed is among those that wait
pub record Covers (m : Files) (folders waiting : List (List ℕ)) : Type 0 where
  pub each : (path q : List ℕ) → IsFilePath path → is_among folders (parent_of path) ≡ true → is_stray path q ≡ true
      → is_some (get m q) ≡ true → is_among waiting q ≡ true

-- what may go from the folders that were listed is known
abbrev pub IsCovered : Files → Listed → Type 0
IsCovered m listed = Covers m listed.folders.keys listed.waiting.keys

-- the path waits, where a payload of some snapshot may have left it
abbrev pub MayWait : List (List ℕ) → List ℕ → Type 0
MayWait waiting q = (path : List ℕ) → IsFilePath path → is_stray path q ≡ true → is_among waiting q ≡ true

-- what waited waits still
abbrev pub WaitsStill : List (List ℕ) → List (List ℕ) → Type 0
WaitsStill before now = (q : List ℕ) → is_among before q ≡ true → is_among now q ≡ true

-- the files are covered, and stay so when the snapshot of this path is written or removed, or its pending one
pub record CoversAt (path : List ℕ) (m : Files) (folders waiting : List (List ℕ)) : Type 0 where
  pub covered : Covers m folders waiting
  pub approved : MayWait waiting path
  pub pending : MayWait waiting (pending_path path)

-- the same, by what is known
abbrev pub IsCoveredAt : List ℕ → Files → Listed → Type 0
IsCoveredAt path m listed = CoversAt path m listed.folders.keys listed.waiting.keys

-- where files are known they are those that the store tells, and are covered
abbrev pub IsKnown : Option Files → Option Files → Listed → Type 0
IsKnown known files listed = (m : Files) → known ≡ Some m → (files ≡ Some m) × IsCovered m listed

-- where files were told and covered, those that are told now are covered
abbrev pub StaysCovered : Option Files → Option Files → Listed → Listed → Type 0
StaysCovered files files' listed listed' = (m : Files) → files ≡ Some m → IsCovered m listed → (n : Files) → files' ≡ Some n → IsCovered n listed'
