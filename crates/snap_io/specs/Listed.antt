-- The names in a folder.
use Rattle.std.specs.Prelude.{◌≡◌, ◌≢◌, ℕ, List, All, AllPairs, is_some}
use Rattle.std.specs.List.{list_any}
use Rattle.std.specs.Str.{bytes_eq}
use Rattle.std.specs.FinMap.{get}
use Rattle.snap_io.specs.Files.{Files}
use Rattle.snap_path.specs.Paths.{IsName, joined}

-- each name of one component that is a path of the map when it is joined to the folder, once, and no other
pub record AreNames (m : Files) (folder : List ℕ) (names : List (List ℕ)) : Type 0 where
  pub only : All IsName names
  pub each : (n : List ℕ) → IsName n → list_any (bytes_eq n) names ≡ is_some (get m (joined folder n))
  pub once : AllPairs (λ a b. a ≢ b) names
