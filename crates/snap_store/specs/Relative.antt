-- A path without the components of another that stand at its front.
use Rattle.std.specs.Prelude.{ℕ, List, [], ◌∷◌, Option, None, Some, unwrap_or}
use Rattle.snap_path.specs.Paths.{components, is_absolute, slashed, path_of_parts, joined, Apart, apart}

-- what is left of a path that had its base's components at its front: of the base nothing is left then
abbrev pub below : List (List ℕ) → List (List ℕ) → Option (List ℕ)
below [] path = Some (slashed path)
below (part ∷ base) path = None

abbrev pub left_below : Apart → Option (List ℕ)
left_below a = below a.base a.path

-- the path without the components of the base; none where these don't stand at its front
abbrev pub path_within : List ℕ → List ℕ → Option (List ℕ)
path_within path base = left_below (apart (components path) (components base))

-- the source, joined to the base, without the base's components, or the base where these don't stand at its front
abbrev pub source_within : List ℕ → List ℕ → List ℕ
source_within base source = unwrap_or (path_within (joined base source) base) (path_of_parts (is_absolute base) (components base))
