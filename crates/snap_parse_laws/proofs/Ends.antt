-- A token that ends its line, after which a key is given up.
use Rattle.snap_parse_laws.proofs.Prelude.{◌≡◌, ℕ, List, [], Bool, true, false, refl, Some, None, Option, length, Mark, Place, mark_of, Token, is_overdue, State, SimpleKey}

-- the key that a token may be
abbrev pub key_of : Bool → Place → List Token → Option SimpleKey
key_of true p h = Some (record { place = length h; required = false; mark = mark_of p })
key_of false p h = None

-- a state in blocks, where a key may be possible, and none may begin
abbrev pub outside : Option SimpleKey → ℕ → Place → List Token → List ℕ → State
outside key a p h os = record {
  place = p;
  held = h;
  started = true;
  ended = false;
  allowed = false;
  adjacent = a;
  keys = record { key = key; outer = [] };
  columns = os;
}

pub in-time : (b : Bool) (p : Place) (h : List Token) (m : Mark) → is_overdue m (key_of b p h) ≡ false
in-time true p h m = refl
in-time false p h m = refl
