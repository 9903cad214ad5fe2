-- Where a scanner stands between the pieces of a printed text, and the tokens that it has come to.
use Rattle.std.specs.Prelude.{ℕ, ◌≡◌, List, [], ◌∷◌, if◌then◌else◌, Bool, true, false, Option}
use Rattle.snap_scan_tokens.specs.Place.{Place, mark_of}
use Rattle.snap_scan_tokens.specs.declared.token.Token.{Token}
use Rattle.snap_scan_tokens.specs.declared.token.TokenType.{TokenType}
use Rattle.snap_scan_tokens.specs.declared.token.TokenType.TheVariants as kind
use Rattle.snap_scan.specs.Keys.{no_keys, any_overdue}
use Rattle.snap_scan.specs.State.{State, stale, to_next, is_right_of}

-- the state at the next character that isn't skipped, its keys as they were
abbrev pub arrived : State → State
arrived s = to_next s.place.left s

abbrev pub settled : State → State
settled s = stale (arrived s)

abbrev pub here : List ℕ → ℕ → ℕ → ℕ → Place
here cs i l j = record { left = cs; index = i; line = l; col = j }

-- a state in blocks, where no key is possible, and one may begin if b is true
abbrev pub calm : Bool → ℕ → Place → List Token → List ℕ → State
calm b adjacent p h columns = record {
  place = p;
  held = h;
  started = true;
  ended = false;
  allowed = b;
  adjacent = adjacent;
  keys = no_keys;
  columns = columns;
}

-- s stands, once settled, at a place in blocks, with these tokens held and these columns open
pub record Settles (b : Bool) (s : State) (p : Place) (h : List Token) (columns : List ℕ) : Type 0 where
  pub adjacent : ℕ
  pub started : s.started ≡ true
  pub ended : s.ended ≡ false
  pub timely : any_overdue (mark_of (arrived s).place) (arrived s).keys ≡ false
  pub calm : settled s ≡ calm b adjacent p h columns

-- the BlockEnd tokens of the columns right of a column, or of all
abbrev pub closing : Option ℕ → List ℕ → List TokenType
closing c [] = []
closing c (o ∷ os) = if is_right_of c o then kind.BlockEnd ∷ closing c os else []
