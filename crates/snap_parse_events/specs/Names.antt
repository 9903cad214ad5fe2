-- The names of anchors that a parser knows, and what events do with them.
use Rattle.std.specs.Prelude.{◌≡◌, ◌≢◌, ◌+◌, ℕ, Bool, List, [], Option, Some, cond}
use Rattle.std.specs.Ordering.{nat_cmp}
use Rattle.std.specs.Cmp.Lexicographic.{slice_cmp}
use Rattle.std.specs.Map.{lookup}
use Rattle.std.specs.BTreeMap.{is_at}
use Rattle.snap_parse_events.specs.declared.event.Event.{Event}
use Rattle.snap_parse_events.specs.declared.event.Event.TheVariants as e

-- the names with the number that each has now, and the next number
pub record Names : Type 0 where
  pub known : List (List ℕ × ℕ)
  pub next : ℕ

-- nothing is known, and the first number is 1
abbrev pub no_names : Names
no_names = record { known = []; next = 1 }

abbrev pub is_same : List ℕ → List ℕ → Bool
is_same name other = is_at (slice_cmp nat_cmp name) other

-- the number that a name has
abbrev pub id_of : List ℕ → Names → Option ℕ
id_of name names = lookup (is_same name) names.known

-- all are forgotten; their numbers aren't given again
abbrev pub forgotten : Names → Names
forgotten names = record names { known = [] }

-- a name gets the next number, whether it had one or not, and each other name keeps its own
pub record Registers (name : List ℕ) (old new : Names) : Type 0 where
  pub known : (other : List ℕ) → id_of other new ≡ cond (is_same name other) (Some old.next) (id_of other old)
  pub next : new.next ≡ old.next + 1

-- a node with this number: 0 where it has no anchor, else the next one, which its name has from now on
pub record IsAnchored (id : ℕ) (old new : Names) : Type 0 where
  pub bare : id ≡ 0 → new ≡ old
  pub named : id ≢ 0 → (id ≡ old.next) × (name : List ℕ) × Registers name old new

-- an alias: its number is that of a name that is known
pub record IsKnown (id : ℕ) (names : Names) : Type 0 where
  pub name : List ℕ
  pub has : id_of name names ≡ Some id

-- what an event does with the names
abbrev pub Naming : Event → Names → Names → Type 0
Naming (e.Alias id) old new = IsKnown id old × (new ≡ old)
Naming (e.Scalar text style id tag) old new = IsAnchored id old new
Naming (e.SequenceStart id) old new = IsAnchored id old new
Naming (e.MappingStart id) old new = IsAnchored id old new
Naming _ old new = new ≡ old
