-- Pieces of a text.
use Rattle.std.specs.Prelude.{ℕ, ◌-◌, ◌≡◌, List, ◌++◌, length, take}

-- the front of a list, before a list at its end
abbrev pub before : List ℕ → List ℕ → List ℕ
before all rest = take (length all - length rest) all

-- the list ends in the other one
abbrev pub EndsIn : List ℕ → List ℕ → Type 0
EndsIn all rest = all ≡ before all rest ++ rest

-- the text of a scalar so far, and what stands after it in the source
pub record Piece : Type 0 where
  pub text : List ℕ
  pub behind : List ℕ
