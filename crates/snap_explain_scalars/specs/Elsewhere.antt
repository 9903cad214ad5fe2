-- How other readers of YAML take a plain scalar that ours takes otherwise.
use Rattle.std.specs.Prelude.{ℕ, List, [], ◌∷◌, Bool, false, ◌==◌, ◌||◌, Option, if◌then◌else◌}
use Rattle.std.specs.Char.{is_ascii_digit}
use Rattle.snap_explain_scalars.specs.Numbers.{number_elsewhere}
use Rattle.snap_explain_scalars.specs.Words.{word_elsewhere}
use Rattle.snap_explain_scalars.specs.declared.otherwise.Otherwise.{Otherwise}

-- it begins with a digit or a sign
abbrev pub begins_number : List ℕ → Bool
begins_number [] = false
begins_number (c ∷ cs) = is_ascii_digit c || (c == 43 || c == 45)

-- how they take it, and none where they take it as ours does
abbrev pub read_elsewhere : List ℕ → Option Otherwise
read_elsewhere w = if begins_number w then number_elsewhere w else word_elsewhere w
