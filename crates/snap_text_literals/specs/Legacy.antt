-- When two texts agree by the older rule.
use Rattle.std.specs.Prelude.{◌==◌, ◌&&◌, ◌||◌, ℕ, List, [], ◌∷◌, if◌then◌else◌}
use Rattle.snap_text_literals.specs.Normal.{normal}

-- the text without the returns and the line ends at its front
abbrev pub without_breaks : List ℕ → List ℕ
without_breaks [] = []
without_breaks (c ∷ cs) = if c == 13 || c == 10 then without_breaks cs else c ∷ cs

-- the text without one `---` and its line's end, where it begins so
abbrev pub without_fence : List ℕ → List ℕ
without_fence (a ∷ b ∷ c ∷ d ∷ rest) = if a == 45 && b == 45 && c == 45 && d == 10 then rest else a ∷ b ∷ c ∷ d ∷ rest
without_fence text = text

-- the older form of a text
abbrev pub legacy : List ℕ → List ℕ
legacy text = without_fence (without_breaks (normal text))
