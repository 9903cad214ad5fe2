-- What stands between the values of a JSON text, in each layout.
use Rattle.std.specs.Prelude.{ℕ, zero, suc, List, [], ◌∷◌, ◌++◌}
use Rattle.snap_json.specs.declared.format.Format.{Format}
use Rattle.snap_json.specs.declared.format.Format.TheVariants.{Condensed, SingleLine, Pretty}

abbrev pub blanks : ℕ → List ℕ
blanks zero = []
blanks (suc k) = 32 ∷ blanks k

-- the end of a line and the blanks of the next, where each element has a line of its own
abbrev pub break_at : Format → ℕ → List ℕ
break_at Condensed k = []
break_at SingleLine k = []
break_at Pretty k = 10 ∷ blanks k

-- what comes before the first element of a collection
abbrev pub opening : Format → ℕ → ℕ → List ℕ
opening layout k bracket = bracket ∷ break_at layout k

-- what comes after the last element of a collection
abbrev pub closing : Format → ℕ → ℕ → List ℕ
closing layout k bracket = break_at layout k ++ bracket ∷ []

-- what comes between two elements
abbrev pub comma : Format → ℕ → List ℕ
comma Condensed k = 44 ∷ []
comma SingleLine k = 44 ∷ 32 ∷ []
comma Pretty k = 44 ∷ 10 ∷ blanks k

-- what comes between a key and its value
abbrev pub colon : Format → List ℕ
colon Condensed = 58 ∷ []
colon SingleLine = 58 ∷ 32 ∷ []
colon Pretty = 58 ∷ 32 ∷ []
