-- Paths, a line each, as `xargs` reads them.
use Rattle.std.specs.Prelude.{◌==◌, ◌||◌, ℕ, Bool, true, false, List, [], ◌∷◌, ◌++◌, encode_utf8_all, if◌then◌else◌}
use Rattle.std.specs.List.{flat_map, list_any}

-- the end of a line
abbrev pub is_break : ℕ → Bool
is_break c = c == 10

-- what `xargs` takes for more than itself: blanks, quotes, and the backslash
abbrev pub is_mark : ℕ → Bool
is_mark c = c == 32 || (c == 9 || (c == 11 || (c == 12 || (c == 13 || (c == 34 || (c == 39 || c == 92))))))

-- such a character stands after a backslash
abbrev pub marked : ℕ → List ℕ
marked c = if is_mark c then 92 ∷ c ∷ [] else c ∷ []

-- the line of a path; one that holds the end of a line has none
abbrev pub line_of : List ℕ → List ℕ
line_of path = if list_any is_break path then [] else flat_map marked path ++ 10 ∷ []

-- the lines of paths, of each in turn, as bytes
abbrev pub lines_of : List (List ℕ) → List ℕ
lines_of paths = encode_utf8_all (flat_map line_of paths)

-- whether there is one
abbrev pub is_filled : List (List ℕ) → Bool
is_filled [] = false
is_filled (path ∷ paths) = true
