-- An empty list or dict at the end of a line.
use Rattle.snap_parse_laws.proofs.Prelude.{◌≡◌, ℕ, ◌+◌, ◌-◌, List, [], ◌∷◌, ◌++◌, Bool, true, false, refl, ap, ◌∙◌, arith, Some, None, Option, nat_lt, nat_tests, Mark, Place, mark_of, Token, kind_step, fresh, is_overdue, any_overdue, State, at, SimpleKey, TokenKind, Brackets, square, curly, open_sign, close_sign, open_token, close_token, left_by, fetched, arrived, settled, here, calm}
use Rattle.snap_parse_laws.proofs.Beginnings.{open_kind, close_kind, closed-kind}
use Rattle.snap_parse_laws.proofs.Ends.{outside, key_of}
use Rattle.snap_parse_laws.proofs.Pieces.{fetch-settled}

-- after an opening bracket
abbrev pub inside : Option SimpleKey → ℕ → Place → List Token → List ℕ → State
inside key a p h os = record {
  place = p;
  held = h;
  started = true;
  ended = false;
  allowed = true;
  adjacent = a;
  keys = record { key = None; outer = key ∷ [] };
  columns = os;
}

pub opened-is : (q : Brackets) (b : Bool) (a : ℕ) (cs : List ℕ) (i l j : ℕ) (h : List Token) (os : List ℕ)
    → let p = here (open_sign q ∷ cs) i l j in
    left_by (kind_step (open_kind q) (calm b a p h os)) ≡ Some (inside (key_of b p h) a (here cs (i + 1) l (j + 1)) (h ++ at (mark_of p) (open_token q) ∷ []) os)
opened-is square true a cs i l j h os = refl
opened-is square false a cs i l j h os = refl
opened-is curly true a cs i l j h os = refl
opened-is curly false a cs i l j h os = refl

pub still-fresh : (b : Bool) (p : Place) (h : List Token) (j : ℕ) → fresh (record { index = p.index + 1; line = p.line; col = j }) (key_of b p h) ≡ key_of b p h
still-fresh true p h j =
    let level : nat_lt p.line p.line ≡ false = grind (arith, nat_tests) in
    let near : nat_lt 1024 (p.index + 1 - p.index) ≡ false = grind (arith, nat_tests) in
    rw (level, near) refl
still-fresh false p h j = refl

closed-is : (q : Brackets) (key : Option SimpleKey) (a : ℕ) (cs : List ℕ) (i l j : ℕ) (h : List Token) (os : List ℕ)
    → left_by (kind_step (close_kind q) (inside key a (here (close_sign q ∷ cs) i l j) h os))
    ≡ Some (outside key a (here cs (i + 1) l (j + 1)) (h ++ at (mark_of (here (close_sign q ∷ cs) i l j)) (close_token q) ∷ []) os)
closed-is square key a cs i l j h os = refl
closed-is curly key a cs i l j h os = refl

stands : (q : Brackets) (key : Option SimpleKey) (a : ℕ) (cs : List ℕ) (i l j : ℕ) (h : List Token) (os : List ℕ) → fresh (record { index = i; line = l; col = j }) key ≡ key
    → settled (inside key a (here (close_sign q ∷ cs) i l j) h os) ≡ inside key a (here (close_sign q ∷ cs) i l j) h os
stands square key a cs i l j h os same = rw same refl
stands curly key a cs i l j h os same = rw same refl

timely-inside : (q : Brackets) (key : Option SimpleKey) (a : ℕ) (cs : List ℕ) (i l j : ℕ) (h : List Token) (os : List ℕ) → ((m : Mark) → is_overdue m key ≡ false)
    → let s = arrived (inside key a (here (close_sign q ∷ cs) i l j) h os) in any_overdue (mark_of s.place) s.keys ≡ false
timely-inside square key a cs i l j h os timely = rw (timely (record { index = i; line = l; col = j })) refl
timely-inside curly key a cs i l j h os timely = rw (timely (record { index = i; line = l; col = j })) refl

pub step-close : (q : Brackets) (key : Option SimpleKey) (a : ℕ) (cs : List ℕ) (i l j : ℕ) (h : List Token) (os : List ℕ) → fresh (record { index = i; line = l; col = j }) key ≡ key
    → ((m : Mark) → is_overdue m key ≡ false)
    → fetched (inside key a (here (close_sign q ∷ cs) i l j) h os)
    ≡ Some (outside key a (here cs (i + 1) l (j + 1)) (h ++ at (mark_of (here (close_sign q ∷ cs) i l j)) (close_token q) ∷ []) os)
step-close q key a cs i l j h os same timely =
    let s : State = inside key a (here (close_sign q ∷ cs) i l j) h os in
    let kinds : TokenKind → Option State = λ x. left_by (kind_step x s) in
    fetch-settled s s refl refl (timely-inside q key a cs i l j h os timely) (stands q key a cs i l j h os same)
    ∙ ap kinds (closed-kind q true a cs i l j) ∙ closed-is q key a cs i l j h os
