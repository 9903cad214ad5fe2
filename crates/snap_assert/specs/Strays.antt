-- The stray paths among the files.
use Rattle.std.specs.Prelude.{◌≡◌, true, ℕ, List, is_some}
use Rattle.std.specs.FinMap.{get}
use Rattle.std.specs.List.Sorted.{IsStrictlySortedBy}
use Rattle.snap_io.specs.Files.{Files}
use Rattle.snap_assert.specs.Removed.{is_among}
use Rattle.snap_assert.specs.Session.{text_cmp}
use Rattle.snap_assert.specs.Steps.{is_stray}

-- each of these is left over by payloads of this path
abbrev pub AllStray : List ℕ → List (List ℕ) → Type 0
AllStray path strays = (q : List ℕ) → is_among strays q ≡ true → is_stray path q ≡ true

-- each of these is left over by payloads of this path, each such path of the map is among them, and they stand in the order of their
-- bytes; more than are there do no harm
pub record AreStrays (path : List ℕ) (m : Files) (strays : List (List ℕ)) : Type 0 where
  pub all : AllStray path strays
  pub covers : (q : List ℕ) → is_stray path q ≡ true → is_some (get m q) ≡ true → is_among strays q ≡ true
  pub ascend : IsStrictlySortedBy text_cmp strays
