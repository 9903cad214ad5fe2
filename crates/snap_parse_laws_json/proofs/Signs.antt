-- Brackets and commas of a JSON text.
use Rattle.snap_parse_laws_json.proofs.Prelude.{◌≡◌, ℕ, zero, suc, ◌+◌, ◌-◌, List, [], ◌∷◌, ◌++◌, Bool, true, false, refl, ap, ◌∙◌, arith, Some, None, Option, nat_lt, length, take, length-append, length-take-le, ◌&&◌, ◌==◌, slice_index_or, if◌then◌else◌, list_any, Place, mark_of, Token, Outcome, kind_step, sign, Keys, is_required, still_fresh, has_levels, shallower, deeper, kind_of, left_by, fetched, State, at, saved, SimpleKey, TokenKind, Brackets, square, curly, open_sign, close_sign, open_token, close_token, here, open_kind, close_kind, opened-kind, closed-kind, key_at, stops_at, or_parts, and_right, and_nothing, begins-hollow}
use Rattle.snap_scan_tokens.specs.declared.token.TokenType.TheVariants as t
use Rattle.snap_scan.specs.declared.kind.TokenKind.TheVariants as k
use Rattle.snap_parse_laws_json.proofs.Standing.{flow_state, AreFree, still-free, fetch-flow}

-- the possible key of a level, once a token was fetched at a place
abbrev pub key_from : Bool → Place → List Token → Option SimpleKey → Option SimpleKey
key_from b p h key = if b then Some (key_at p h) else key

pub free-from : (b : Bool) (p : Place) (h : List Token) (key : Option SimpleKey) → is_required key ≡ false → is_required (key_from b p h key) ≡ false
free-from true p h key free = refl
free-from false p h key free = free

-- the token that stands here may be a key, where one may begin
pub saved-is : (b : Bool) (a : ℕ) (p : Place) (h : List Token) (ks : Keys)
    → saved (flow_state b a p h ks) ≡ flow_state b a p h (record { key = key_from b p h ks.key; outer = ks.outer })
saved-is b a p h ks = rw (and_nothing (has_levels ks.outer)) refl

pub otherwise : (b : Bool) (x y : Outcome) → b ≡ false → (if b then x else y) ≡ y
otherwise b x y h = rw h refl

pub so : (b : Bool) (x y : Outcome) → b ≡ true → (if b then x else y) ≡ x
so b x y h = rw h refl

-- a level more
abbrev pub keys_inside : Option SimpleKey → List (Option SimpleKey) → Keys
keys_inside key outer = record { key = None; outer = outer ++ key ∷ [] }

any-append : (ks : List (Option SimpleKey)) (key : Option SimpleKey) → list_any is_required ks ≡ false → is_required key ≡ false → list_any is_required (ks ++ key ∷ []) ≡ false
any-append [] key h e = rw e refl
any-append (x ∷ ks) key h e =
    let two = or_parts (is_required x) (list_any is_required ks) h in
    rw (two.0, any-append ks key two.1 e) refl

pub free-inside : (n : ℕ) (key : Option SimpleKey) (ks : Keys) → AreFree n ks → is_required key ≡ false → AreFree (suc n) (keys_inside key ks.outer)
free-inside n key ks free e = record {
  key = refl;
  outer = any-append ks.outer key free.outer e;
  levels = length-append ks.outer (key ∷ []) ∙ (let same : length ks.outer ≡ n = free.levels in omega (arith, same));
}

-- the state after an opening bracket
abbrev pub opened : Brackets → Bool → ℕ → List ℕ → ℕ → ℕ → List Token → Keys → State
opened q b a cs i j h ks =
    let p = here (open_sign q ∷ cs) i 1 j in
    flow_state true a (here cs (i + 1) 1 (j + 1)) (h ++ at (mark_of p) (open_token q) ∷ []) (keys_inside (key_from b p h ks.key) ks.outer)

opened-is : (q : Brackets) (n : ℕ) (b : Bool) (a : ℕ) (cs : List ℕ) (i j : ℕ) (h : List Token) (ks : Keys) → AreFree n ks → nat_lt n 1023 ≡ true
    → left_by (kind_step (open_kind q) (flow_state b a (here (open_sign q ∷ cs) i 1 j) h ks)) ≡ Some (opened q b a cs i j h ks)
opened-is square n b a cs i j h ks free room =
    let p : Place = here (91 ∷ cs) i 1 j in
    let room_for : nat_lt (length ks.outer) 1023 ≡ true = rw free.levels room in
    let with_keys : State → Option State = λ v. Some (sign t.FlowSequenceStart true (record v { keys = deeper v.keys })) in
    ap left_by (otherwise (b && is_required ks.key) _ _ (and_right b (is_required ks.key) free.key) ∙ so (nat_lt (length ks.outer) 1023) _ _ room_for)
    ∙ ap with_keys (saved-is b a p h ks)
opened-is curly n b a cs i j h ks free room =
    let p : Place = here (123 ∷ cs) i 1 j in
    let room_for : nat_lt (length ks.outer) 1023 ≡ true = rw free.levels room in
    let with_keys : State → Option State = λ v. Some (sign t.FlowMappingStart true (record v { keys = deeper v.keys })) in
    ap left_by (otherwise (b && is_required ks.key) _ _ (and_right b (is_required ks.key) free.key) ∙ so (nat_lt (length ks.outer) 1023) _ _ room_for)
    ∙ ap with_keys (saved-is b a p h ks)

-- an opening bracket is fetched
pub step-open : (q : Brackets) (n : ℕ) (b : Bool) (a : ℕ) (cs : List ℕ) (i j : ℕ) (h : List Token) (ks : Keys) → AreFree n ks → nat_lt n 1023 ≡ true
    → let p = here (open_sign q ∷ cs) i 1 j in
    fetched (flow_state b a p h ks) ≡ Some (opened q b a cs i j h (still_fresh (mark_of p) ks))
step-open q n b a cs i j h ks free room =
    let p : Place = here (open_sign q ∷ cs) i 1 j in
    let late : Keys = still_fresh (mark_of p) ks in
    let kinds : TokenKind → Option State = λ x. left_by (kind_step x (flow_state b a p h late)) in
    fetch-flow n b a p h ks free (begins-hollow q) ∙ ap kinds (opened-kind q (has_levels ks.outer) a cs i 1 j)
    ∙ opened-is q n b a cs i j h late (still-free (mark_of p) n ks free) room

-- the keys of a level, without its own
abbrev pub without_key : Keys → Keys
without_key ks = record { key = None; outer = ks.outer }

pub free-without : (n : ℕ) (ks : Keys) → AreFree n ks → AreFree n (without_key ks)
free-without n ks free = record { key = refl; outer = free.outer; levels = free.levels }

free-at : (ks : List (Option SimpleKey)) (n : ℕ) → list_any is_required ks ≡ false → is_required (slice_index_or ks n None) ≡ false
free-at [] n h = refl
free-at (x ∷ ks) zero h = (or_parts (is_required x) (list_any is_required ks) h).0
free-at (x ∷ ks) (suc n) h = free-at ks n (or_parts (is_required x) (list_any is_required ks) h).1

free-take : (ks : List (Option SimpleKey)) (n : ℕ) → list_any is_required ks ≡ false → list_any is_required (take n ks) ≡ false
free-take [] zero h = refl
free-take [] (suc n) h = refl
free-take (x ∷ ks) zero h = refl
free-take (x ∷ ks) (suc n) h =
    let two = or_parts (is_required x) (list_any is_required ks) h in
    rw (two.0, free-take ks n two.1) refl

free-either : (b : Bool) (x : Option SimpleKey) → is_required x ≡ false → is_required (if b then x else None) ≡ false
free-either true x h = h
free-either false x h = refl

-- a level less
pub free-outside : (n : ℕ) (ks : Keys) → AreFree (suc n) ks → AreFree n (shallower (without_key ks))
free-outside n ks free =
    let one_less : length ks.outer - 1 ≡ n = (let same : length ks.outer ≡ suc n = free.levels in omega (arith, same)) in
    record {
      key = free-either (has_levels ks.outer) (slice_index_or ks.outer (length ks.outer - 1) None) (free-at ks.outer (length ks.outer - 1) free.outer);
      outer = free-take ks.outer (length ks.outer - 1) free.outer;
      levels = length-take-le (length ks.outer - 1) ks.outer (omega arith) ∙ one_less;
    }

-- the state after a closing bracket
abbrev pub closed : Brackets → ℕ → List ℕ → ℕ → ℕ → List Token → Keys → State
closed q a cs i j h ks =
    flow_state false a (here cs (i + 1) 1 (j + 1)) (h ++ at (mark_of (here (close_sign q ∷ cs) i 1 j)) (close_token q) ∷ []) (shallower (without_key ks))

closed-is : (q : Brackets) (b : Bool) (a : ℕ) (cs : List ℕ) (i j : ℕ) (h : List Token) (ks : Keys) → is_required ks.key ≡ false
    → left_by (kind_step (close_kind q) (flow_state b a (here (close_sign q ∷ cs) i 1 j) h ks)) ≡ Some (closed q a cs i j h ks)
closed-is square b a cs i j h ks free = ap left_by (otherwise (is_required ks.key) _ _ free)
closed-is curly b a cs i j h ks free = ap left_by (otherwise (is_required ks.key) _ _ free)

begins-close : (q : Brackets) → stops_at (close_sign q) ≡ false
begins-close square = refl
begins-close curly = refl

-- a closing bracket is fetched
pub step-close : (q : Brackets) (n : ℕ) (b : Bool) (a : ℕ) (cs : List ℕ) (i j : ℕ) (h : List Token) (ks : Keys) → AreFree n ks
    → let p = here (close_sign q ∷ cs) i 1 j in
    fetched (flow_state b a p h ks) ≡ Some (closed q a cs i j h (still_fresh (mark_of p) ks))
step-close q n b a cs i j h ks free =
    let p : Place = here (close_sign q ∷ cs) i 1 j in
    let late : Keys = still_fresh (mark_of p) ks in
    let kinds : TokenKind → Option State = λ x. left_by (kind_step x (flow_state b a p h late)) in
    fetch-flow n b a p h ks free (begins-close q) ∙ ap kinds (closed-kind q (has_levels ks.outer) a cs i 1 j)
    ∙ closed-is q b a cs i j h late (still-free (mark_of p) n ks free).key

comma-kind : (flow : Bool) (a : ℕ) (cs : List ℕ) (i j : ℕ) → kind_of flow a (here (44 ∷ cs) i 1 j) ≡ k.FlowEntry
comma-kind flow a cs i j = rw (and_nothing (j == 0)) refl

-- the state after a comma
abbrev pub parted : ℕ → List ℕ → ℕ → ℕ → List Token → Keys → State
parted a cs i j h ks = flow_state true a (here cs (i + 1) 1 (j + 1)) (h ++ at (mark_of (here (44 ∷ cs) i 1 j)) t.FlowEntry ∷ []) (without_key ks)

-- a comma is fetched
pub step-comma : (n : ℕ) (b : Bool) (a : ℕ) (cs : List ℕ) (i j : ℕ) (h : List Token) (ks : Keys) → AreFree n ks
    → let p = here (44 ∷ cs) i 1 j in
    fetched (flow_state b a p h ks) ≡ Some (parted a cs i j h (still_fresh (mark_of p) ks))
step-comma n b a cs i j h ks free =
    let p : Place = here (44 ∷ cs) i 1 j in
    let late : Keys = still_fresh (mark_of p) ks in
    let kinds : TokenKind → Option State = λ x. left_by (kind_step x (flow_state b a p h late)) in
    fetch-flow n b a p h ks free refl ∙ ap kinds (comma-kind (has_levels ks.outer) a cs i j)
    ∙ ap left_by (otherwise (is_required late.key) _ _ (still-free (mark_of p) n ks free).key)
