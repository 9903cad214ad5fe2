-- What a tool that drops or adds white space at the ends of lines leaves alike.
use Rattle.std.specs.Prelude.{◌&&◌, ℕ, Bool, true, false, List, [], ◌∷◌}
use Rattle.std.specs.Cmp.Lexicographic.{slice_cmp}
use Rattle.std.specs.Ordering.{nat_cmp, is_eq}
use Rattle.snap_text_literals.specs.Normal.{trimmed}

-- two lines that are one but for white space at their ends
abbrev pub is_alike : List ℕ → List ℕ → Bool
is_alike line other = is_eq (slice_cmp nat_cmp (trimmed line) (trimmed other))

-- the same lines, one for one, but for white space at their ends
abbrev pub are_alike : List (List ℕ) → List (List ℕ) → Bool
are_alike [] [] = true
are_alike [] (other ∷ others) = false
are_alike (line ∷ lines) [] = false
are_alike (line ∷ lines) (other ∷ others) = is_alike line other && are_alike lines others
