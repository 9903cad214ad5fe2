-- The texts that words ask for.
use Rattle.std.specs.Prelude.{ℕ, List, [], ◌∷◌, codes, Option, None, Some, if◌then◌else◌}
use Rattle.std.specs.Str.{bytes_eq}

-- the usage or the version of a program, where the one word asks for it
abbrev pub text_asked : List ℕ → List ℕ → List (List ℕ) → Option (List ℕ)
text_asked usage version (word ∷ []) =
    if bytes_eq word (codes "--help") then Some usage else if bytes_eq word (codes "--version") then Some version else None
text_asked usage version _ = None
