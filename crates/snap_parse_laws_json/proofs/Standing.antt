-- Where a scanner stands between the pieces of a JSON text, and what it fetches there.
use Rattle.snap_parse_laws_json.proofs.Prelude.{◌≡◌, ℕ, List, [], ◌∷◌, ◌++◌, Bool, true, false, refl, ap, ◌∙◌, append-nil, Some, None, Option, map, length, length-map, slice_index, if◌then◌else◌, list_any, Place, mark_of, Token, kind_step, Keys, fresh, is_past, is_overdue, is_required, any_overdue, still_fresh, has_levels, kind_of, left_by, fetched, State, unrolled, stale, in_flow, SimpleKey, stops_at, to_next-stops, or_parts, and_left}
use Rattle.snap_scan_tokens.specs.Mark.{Mark}
use Rattle.snap_parse_laws.proofs.Pieces.{fetch-settled}

-- a state outside blocks, with these possible keys
abbrev pub flow_state : Bool → ℕ → Place → List Token → Keys → State
flow_state b a p h ks = record {
  place = p;
  held = h;
  started = true;
  ended = false;
  allowed = b;
  adjacent = a;
  keys = ks;
  columns = [];
}

-- none of the possible keys must become one, and so many lists and dicts are open
pub record AreFree (n : ℕ) (ks : Keys) : Type 0 where
  pub key : is_required ks.key ≡ false
  pub outer : list_any is_required ks.outer ≡ false
  pub levels : length ks.outer ≡ n

timely : (m : Mark) (k : Option SimpleKey) → is_required k ≡ false → is_overdue m k ≡ false
timely m None h = refl
timely m (Some k) h = and_left k.required (is_past m k) h

timely-all : (m : Mark) (ks : List (Option SimpleKey)) → list_any is_required ks ≡ false → list_any (is_overdue m) ks ≡ false
timely-all m [] h = refl
timely-all m (k ∷ ks) h =
    let two = or_parts (is_required k) (list_any is_required ks) h in
    rw (timely m k two.0, timely-all m ks two.1) refl

pub none-late : (m : Mark) (n : ℕ) (ks : Keys) → AreFree n ks → any_overdue m ks ≡ false
none-late m n ks free = rw (timely m ks.key free.key, timely-all m ks.outer free.outer) refl

free-if : (b : Bool) (k : SimpleKey) → k.required ≡ false → is_required (if b then None else Some k) ≡ false
free-if true k h = refl
free-if false k h = h

free-fresh : (m : Mark) (k : Option SimpleKey) → is_required k ≡ false → is_required (fresh m k) ≡ false
free-fresh m None h = refl
free-fresh m (Some k) h = free-if (is_past m k) k h

free-all : (m : Mark) (ks : List (Option SimpleKey)) → list_any is_required ks ≡ false → list_any is_required (map (fresh m) ks) ≡ false
free-all m [] h = refl
free-all m (k ∷ ks) h =
    let two = or_parts (is_required k) (list_any is_required ks) h in
    rw (free-fresh m k two.0, free-all m ks two.1) refl

-- keys that are given up stay so
pub still-free : (m : Mark) (n : ℕ) (ks : Keys) → AreFree n ks → AreFree n (still_fresh m ks)
still-free m n ks free = record {
  key = free-fresh m ks.key free.key;
  outer = free-all m ks.outer free.outer;
  levels = length-map ks.outer (fresh m) ∙ free.levels;
}

pub same-levels : (m : Mark) (ks : List (Option SimpleKey)) → has_levels (map (fresh m) ks) ≡ has_levels ks
same-levels m [] = refl
same-levels m (k ∷ ks) = refl

either-same : (b : Bool) (x y : State) → y ≡ x → (if b then x else y) ≡ x
either-same true x y e = refl
either-same false x y e = e

-- no block is open
pub unrolled-same : (c : Option ℕ) (b : Bool) (a : ℕ) (p : Place) (h : List Token) (ks : Keys) → unrolled c (flow_state b a p h ks) ≡ flow_state b a p h ks
unrolled-same c b a p h ks =
    let with_held : List Token → State = λ x. flow_state b a p x ks in
    either-same (has_levels ks.outer) (flow_state b a p h ks) (with_held (h ++ [])) (ap with_held (append-nil h))

-- what is fetched where nothing is skipped
pub fetch-flow : (n : ℕ) (b : Bool) (a : ℕ) (p : Place) (h : List Token) (ks : Keys) → AreFree n ks → stops_at (slice_index p.left 0) ≡ false
    → fetched (flow_state b a p h ks)
    ≡ left_by (kind_step (kind_of (has_levels ks.outer) a p) (flow_state b a p h (still_fresh (mark_of p) ks)))
fetch-flow n b a p h ks free stop =
    let s : State = flow_state b a p h ks in
    let late : State → Bool = λ v. any_overdue (mark_of v.place) v.keys in
    let there = to_next-stops p.left s stop in
    let u : State = flow_state b a p h (still_fresh (mark_of p) ks) in
    let at_state : State → Option State = λ v. left_by (kind_step (kind_of (in_flow v) a v.place) v) in
    let at_level : Bool → Option State = λ f. left_by (kind_step (kind_of f a p) u) in
    fetch-settled s u refl refl (ap late there ∙ none-late (mark_of p) n ks free) (ap stale there)
    ∙ ap at_state (unrolled-same (Some p.col) b a p h (still_fresh (mark_of p) ks)) ∙ ap at_level (same-levels (mark_of p) ks.outer)
