-- The lines of a text.
use Rattle.std.specs.Prelude.{◌==◌, ◌&&◌, ℕ, List, [], ◌∷◌, Bool, false, if◌then◌else◌}

-- the text begins with a line's end
abbrev pub begins_line_end : List ℕ → Bool
begins_line_end [] = false
begins_line_end (c ∷ cs) = c == 10

-- the character in front of the first line
abbrev pub onto : ℕ → List (List ℕ) → List (List ℕ)
onto c [] = (c ∷ []) ∷ []
onto c (line ∷ rest) = (c ∷ line) ∷ rest

-- the lines, each without its line's end and one return in front of that; nothing follows the last line's end
abbrev pub lines : List ℕ → List (List ℕ)
lines [] = []
lines (c ∷ cs) = if c == 10 then [] ∷ lines cs else (if c == 13 && begins_line_end cs then lines cs else onto c (lines cs))

-- the lines, each with its end
abbrev pub ended_lines : List ℕ → List (List ℕ)
ended_lines [] = []
ended_lines (c ∷ cs) = if c == 10 then (c ∷ []) ∷ ended_lines cs else onto c (ended_lines cs)

-- a line without one return at its end
abbrev pub without_return : List ℕ → List ℕ
without_return [] = []
without_return (c ∷ []) = if c == 13 then [] else c ∷ []
without_return (c ∷ d ∷ ds) = c ∷ without_return (d ∷ ds)
