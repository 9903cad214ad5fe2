-- What a call that failed leaves of what it was to add.
use Rattle.std.specs.Prelude.{◌≡◌, ℕ, List, ◌++◌}

-- what being out of memory leaves of a text that was to grow by `full`: what it was, and a beginning of that
pub record IsBegun (old new full : List ℕ) : Type 0 where
  pub added : List ℕ
  pub rest : List ℕ
  pub whole : full ≡ added ++ rest
  pub is : new ≡ old ++ added
