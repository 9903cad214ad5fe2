-- The outside before and after: what a store and a sink hold, each where it is told.
use Rattle.std.specs.Prelude.{◌≡◌, ℕ, List, Option, Some}
use Rattle.snap_io.specs.Files.{Files}

-- where it is told, this holds of it
abbrev pub Given : {X : Type 0} → Option X → (X → Type 0) → Type 0
Given {X = X} told holds = (x : X) → told ≡ Some x → holds x

-- where it is told before, it is told after, as f of it
abbrev pub Becomes : {X : Type 0} → Option X → Option X → (X → X) → Type 0
Becomes {X = X} before after f = (x : X) → before ≡ Some x → after ≡ Some (f x)

-- the files of a store, and the bytes that were written to a sink
pub record Outside : Type 0 where
  pub files : Option Files
  pub written : Option (List ℕ)

-- the outside with these files and these bytes
abbrev pub outside : Option Files → Option (List ℕ) → Outside
outside files written = record { files = files; written = written }
