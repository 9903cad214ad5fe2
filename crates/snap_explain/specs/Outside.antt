-- Whether a path leaves the workspace.
use Rattle.std.specs.Prelude.{◌==◌, ◌||◌, ◌+◌, ◌-◌, ℕ, Bool, true, false, List, [], ◌∷◌, codes, if◌then◌else◌}
use Rattle.std.specs.Str.{bytes_eq}
use Rattle.snap_path.specs.Paths.{components, is_absolute, relative_from}

-- from so many folders below the workspace the components lead out of it: some front of them has more steps up than names and folders
-- before it
abbrev pub rises : ℕ → List (List ℕ) → Bool
rises below [] = false
rises below (part ∷ parts) = if bytes_eq part (codes "..") then (if below == 0 then true else rises (below - 1) parts) else rises (below + 1) parts

-- a path that is seen from the workspace leaves it: it begins at the root, or its components lead out
abbrev pub leaves_from : List ℕ → Bool
leaves_from seen = is_absolute seen || rises 0 (components seen)

-- the path leaves the workspace
abbrev pub is_outside : List ℕ → List ℕ → Bool
is_outside workspace path = leaves_from (relative_from path workspace)
