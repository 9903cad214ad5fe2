-- What payloads may have left beside a snapshot file.
use Rattle.std.specs.Prelude.{ℕ, Bool, false, List, Option, None, Some, codes, is_some, map}
use Rattle.std.specs.List.{filter}
use Rattle.snap_path.specs.Names.{past_mark}
use Rattle.snap_path.specs.Paths.{joined}

abbrev pub goes_on : Option (List ℕ) → Bool
goes_on None = false
goes_on (Some rest) = is_some (past_mark (codes ".new.") rest)

-- what the name of a file is that a payload left beside another: the name of that, `.new.`, and more
abbrev pub is_left : List ℕ → List ℕ → Bool
is_left file name = goes_on (past_mark file name)

-- the paths of these, of some names in a folder, in their order
abbrev pub left_in : List ℕ → List ℕ → List (List ℕ) → List (List ℕ)
left_in folder file names = map (joined folder) (filter (is_left file) names)
