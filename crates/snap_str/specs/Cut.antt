-- A text cut at a character.
use Rattle.std.specs.Prelude.{◌≡◌, ◌==◌, ◌⊎◌, ◌+◌, ℕ, List, ◌∷◌, ◌++◌, false, Option, None, Some}
use Rattle.std.specs.List.{list_any}
use Rattle.std.specs.Str.{NoCharPasses, IsCharBoundary}
use Rattle.std.specs.Str.Pattern.{FindsChar}

-- the text does not hold the mark
abbrev pub Lacks : ℕ → List ℕ → Type 0
Lacks mark text = list_any (λ c. c == mark) text ≡ false

-- the text is two parts with the mark between them, at its first place
pub record IsCutAtFirst (mark : ℕ) (text before behind : List ℕ) : Type 0 where
  pub is : text ≡ before ++ mark ∷ behind
  pub first : Lacks mark before

-- the text is two parts with the mark between them, at its last place
pub record IsCutAtLast (mark : ℕ) (text before behind : List ℕ) : Type 0 where
  pub is : text ≡ before ++ mark ∷ behind
  pub last : Lacks mark behind

-- the part holds no mark, and is the whole text or stands after a mark at its end
abbrev pub IsLastPart : ℕ → List ℕ → List ℕ → Type 0
IsLastPart mark text part = Lacks mark part × ((text ≡ part) ⊎ ((before : List ℕ) × (text ≡ before ++ mark ∷ part)))

-- the first place of an ASCII mark in a text is this byte, before which the text may be cut, and after it too
pub record IsFirstByte (mark : ℕ) (text : List ℕ) (i : ℕ) : Type 0 where
  pub first : FindsChar mark text (Some (i, i + 1))
  pub before : IsCharBoundary text i
  pub after : IsCharBoundary text (i + 1)

-- at which byte of a text the mark stands first, if it does
abbrev pub FindsByte : ℕ → List ℕ → Option ℕ → Type 0
FindsByte mark text None = NoCharPasses (λ c. c == mark) text
FindsByte mark text (Some i) = IsFirstByte mark text i
