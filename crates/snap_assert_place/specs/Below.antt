-- Paths that were made of their components.
use Rattle.std.specs.Prelude.{◌≡◌, ℕ, List}
use Rattle.snap_path.specs.Paths.{components, is_absolute, path_of_parts}

-- the path is its components with one slash between each two
abbrev pub IsOfParts : List ℕ → Type 0
IsOfParts path = path ≡ path_of_parts (is_absolute path) (components path)
