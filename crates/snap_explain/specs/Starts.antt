-- What a line begins with.
use Rattle.std.specs.Prelude.{◌==◌, ℕ, List, [], ◌∷◌, if◌then◌else◌}
use Rattle.snap_explain.specs.declared.fault.Start.{Start}
use Rattle.snap_explain.specs.declared.fault.Start.TheVariants as start

-- the blanks that a text begins with
abbrev pub blanks : List ℕ → List ℕ
blanks [] = []
blanks (c ∷ cs) = if c == 32 then c ∷ blanks cs else []

-- what comes after them
abbrev pub after_blanks : List ℕ → List ℕ
after_blanks [] = []
after_blanks (c ∷ cs) = if c == 32 then after_blanks cs else c ∷ cs

-- what a text without blanks in front begins with
abbrev pub start_of : List ℕ → Start
start_of [] = start.Nothing
start_of (c ∷ cs) = if c == 9 then start.Tab else if c == 65279 then start.Mark else start.Other
