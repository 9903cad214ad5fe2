-- A place in a text, as its mark shows it.
use Rattle.std.specs.Prelude.{ℕ}

-- how many characters stand before it, its line from 1, and its column from 0
pub record Mark : Type 0 where
  pub index : ℕ
  pub line : ℕ
  pub col : ℕ
