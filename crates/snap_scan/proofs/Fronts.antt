-- Fetching does not see the tokens that are held, and gives up keys only once.
use Rattle.snap_scan.proofs.Prelude.{◌≡◌, ℕ, suc, ◌+◌, ◌-◌, ◌≤◌, List, [], ◌∷◌, ◌++◌, Bool, true, false, refl, ap, ◌∙◌, arith, Some, None, Option, map, nat_lt, length, min, get_or, map-append, length-map, take-map, list_any, ◌&&◌, ◌==◌, not, if◌then◌else◌, Mark, Place, mark_of, skipped, skip_from, forced, Plain, plain_from, Quoted, single_from, double_from, is_break, ScanInfo, Token, TokenType, TScalarStyle, Outcome, done, refused, kind_step, token_step, document, sign, flow_start, flow_end, value_behind, read_key, plain_read, quoted_read, block_read, Block, block_from, innermost, Keys, fresh, is_past, is_required, is_overdue, any_overdue, has_levels, deeper, shallower, kind_of, left_by, fetched, State, in_flow, to_next, past_comment, is_space, line_ended, advanced, allowing, unrolled, ends, kept, at, saved, is_innermost, inserted, put, rolled, is_deeper, pushed, keyless, is_key_owed, stale, SimpleKey, TokenKind}
use Rattle.std.proofs.Math.ListN.{get_or-map}
use Rattle.snap_scan.proofs.Soundness.{either, to_next-keeps}
use Rattle.snap_scan_tokens.specs.declared.info.ScanInfo.TheVariants as i
use Rattle.snap_scan_tokens.specs.declared.token.TokenType.TheVariants as t
use Rattle.snap_scan_tokens.specs.declared.token.TScalarStyle.TheVariants as style
use Rattle.snap_scan.specs.declared.kind.TokenKind.TheVariants as k

-- other tokens and keys, in the same flow levels
abbrev pub rekeyed : (List Token → List Token) → (Option SimpleKey → Option SimpleKey) → State → State
rekeyed f g s = record s { held = f s.held; keys = record { key = g s.keys.key; outer = map g s.keys.outer } }

has_levels-map : (g : Option SimpleKey → Option SimpleKey) (ks : List (Option SimpleKey)) → has_levels (map g ks) ≡ has_levels ks
has_levels-map g [] = refl
has_levels-map g (k ∷ ks) = refl

-- one of two that are turned
push-if : {A : Type 0} (r : A → A) (b : Bool) (x y x' y' : A) → x' ≡ r x → y' ≡ r y → (if b then x' else y') ≡ r (if b then x else y)
push-if r true x y x' y' h k = h
push-if r false x y x' y' h k = k

mutual
  pub to_next-rekeyed : (f : List Token → List Token) (g : Option SimpleKey → Option SimpleKey) (cs : List ℕ) (s : State)
      → to_next cs (rekeyed f g s) ≡ rekeyed f g (to_next cs s)
  to_next-rekeyed f g [] s = refl
  to_next-rekeyed f g (c ∷ cs) s =
      let r : State → State = rekeyed f g in
      rw (has_levels-map g s.keys.outer) (push-if r (is_space c s) _ _ _ _ (to_next-rekeyed f g cs (advanced s))
      (push-if r (is_break c) _ _ _ _ (to_next-rekeyed f g cs (line_ended (advanced s)))
      (push-if r (c == 35) _ _ _ _ (past_comment-rekeyed f g cs (advanced s)) refl)))

  past_comment-rekeyed : (f : List Token → List Token) (g : Option SimpleKey → Option SimpleKey) (cs : List ℕ) (s : State)
      → past_comment cs (rekeyed f g s) ≡ rekeyed f g (past_comment cs s)
  past_comment-rekeyed f g [] s = refl
  past_comment-rekeyed f g (c ∷ cs) s =
      let r : State → State = rekeyed f g in
      rw (has_levels-map g s.keys.outer) (push-if r (is_break c) _ _ _ _ (to_next-rekeyed f g cs (line_ended (advanced s)))
      (push-if r (c == 0) _ _ _ _ refl (past_comment-rekeyed f g cs (advanced s))))

-- a place that is not before another one
pub record IsOnward (p q : Place) : Type 0 where
  pub line : p.line ≤ q.line
  pub index : p.index ≤ q.index

onward-skip : (cs : List ℕ) (p : Place) → IsOnward p (skip_from cs p)
onward-skip [] p = record { line = omega arith; index = omega arith }
onward-skip (c ∷ cs) p = record { line = either (λ n. p.line ≤ n) (c == 10) (p.line + 1) p.line (omega arith) (omega arith); index = omega arith }

onward-trans : (p q r : Place) → IsOnward p q → IsOnward q r → IsOnward p r
onward-trans p q r a b = record { line = omega arith; index = omega arith }

pub to_next-onward : (cs : List ℕ) (s : State) → IsOnward s.place (to_next cs s).place
to_next-onward cs s =
    to_next-keeps (λ v. IsOnward s.place v.place) (λ v is. onward-trans s.place v.place (skipped v.place) is (onward-skip v.place.left v.place)) (λ v is. is) cs s
    (record { line = omega arith; index = omega arith })

-- a token before all others that are held
abbrev pub raised : Option SimpleKey → Option SimpleKey
raised None = None
raised (Some key) = Some (record key { place = suc key.place })

abbrev pub in_front : Token → State → State
in_front x s = rekeyed (λ h. x ∷ h) raised s

abbrev pub fronts : Token → Option State → Option State
fronts x None = None
fronts x (Some s) = Some (in_front x s)

fresh-raised : (m : Mark) (k : Option SimpleKey) → fresh m (raised k) ≡ raised (fresh m k)
fresh-raised m None = refl
fresh-raised m (Some key) = push-if raised (is_past m key) None (Some key) _ _ refl refl

map-fresh-raised : (m : Mark) (ks : List (Option SimpleKey)) → map (fresh m) (map raised ks) ≡ map raised (map (fresh m) ks)
map-fresh-raised m [] = refl
map-fresh-raised m (k ∷ ks) = rw (fresh-raised m k, map-fresh-raised m ks) refl

stale-front : (x : Token) (s : State) → stale (in_front x s) ≡ in_front x (stale s)
stale-front x s = rw (fresh-raised (mark_of s.place) s.keys.key, map-fresh-raised (mark_of s.place) s.keys.outer) refl

required-raised : (k : Option SimpleKey) → is_required (raised k) ≡ is_required k
required-raised None = refl
required-raised (Some key) = refl

overdue-raised : (m : Mark) (k : Option SimpleKey) → is_overdue m (raised k) ≡ is_overdue m k
overdue-raised m None = refl
overdue-raised m (Some key) = refl

-- a test that sees no change
pub any-same : (p : Option SimpleKey → Bool) (f : Option SimpleKey → Option SimpleKey) → ((k : Option SimpleKey) → p (f k) ≡ p k) → (ks : List (Option SimpleKey))
    → list_any p (map f ks) ≡ list_any p ks
any-same p f same [] = refl
any-same p f same (k ∷ ks) = rw (same k, any-same p f same ks) refl

pub any-overdue-front : (x : Token) (m : Mark) (s : State) → any_overdue m (in_front x s).keys ≡ any_overdue m s.keys
any-overdue-front x m s = any-same (is_overdue m) raised (overdue-raised m) (s.keys.key ∷ s.keys.outer)

unrolled-front : (x : Token) (c : Option ℕ) (s : State) → unrolled c (in_front x s) ≡ in_front x (unrolled c s)
unrolled-front x c s =
    rw (has_levels-map raised s.keys.outer) (push-if (in_front x) (in_flow s) s (record s { held = s.held ++ ends (mark_of s.place) c s.columns; columns = kept c s.columns })
    (in_front x s) (record (in_front x s) { held = x ∷ (s.held ++ ends (mark_of s.place) c s.columns); columns = kept c s.columns }) refl refl)

saved-front : (x : Token) (s : State) → saved (in_front x s) ≡ in_front x (saved s)
saved-front x s =
    let key : SimpleKey = record { place = length s.held; required = in_flow s && is_innermost s.place.col s.columns; mark = mark_of s.place } in
    rw (has_levels-map raised s.keys.outer) (rw (push-if raised s.allowed (Some key) s.keys.key (raised (Some key)) (raised s.keys.key) refl refl) refl)

owed-front : (x : Token) (s : State) → is_key_owed (in_front x s) ≡ is_key_owed s
owed-front x s = rw (required-raised s.keys.key) refl

inserted-front : (x : Token) (p : ℕ) (token : Token) (s : State) → inserted (suc p) token (in_front x s) ≡ in_front x (inserted p token s)
inserted-front x p token s = let behind : min (suc p) (suc (length s.held)) ≡ suc (min p (length s.held)) = omega arith in rw behind refl

abbrev lifted : Option ℕ → Option ℕ
lifted None = None
lifted (Some n) = Some (suc n)

put-front : (x : Token) (p : Option ℕ) (token : Token) (s : State) → put (lifted p) token (in_front x s) ≡ in_front x (put p token s)
put-front x None token s = refl
put-front x (Some p) token s = inserted-front x p token s

rolled-front : (x : Token) (col : ℕ) (p : Option ℕ) (token : Token) (s : State) → rolled col (lifted p) token (in_front x s) ≡ in_front x (rolled col p token s)
rolled-front x col p token s =
    let deep : State = record s { columns = col ∷ s.columns } in
    let inner : State = if is_deeper col s.columns then put p token deep else s in
    let inner' : State = if is_deeper col s.columns then put (lifted p) token (in_front x deep) else in_front x s in
    rw (has_levels-map raised s.keys.outer) (push-if (in_front x) (in_flow s) s inner (in_front x s) inner' refl
    (push-if (in_front x) (is_deeper col s.columns) (put p token deep) s (put (lifted p) token (in_front x deep)) (in_front x s) (put-front x p token deep) refl))

-- one of two outcomes
fronts-if : (x : Token) (b b' : Bool) (o p o' p' : Outcome) → b' ≡ b → left_by o' ≡ fronts x (left_by o) → left_by p' ≡ fronts x (left_by p)
    → left_by (if b' then o' else p') ≡ fronts x (left_by (if b then o else p))
fronts-if x true b' o p o' p' same h k = rw same h
fronts-if x false b' o p o' p' same h k = rw same k

some-front : (x : Token) (f : State → State) (s s' : State) → s' ≡ in_front x s → f (in_front x s) ≡ in_front x (f s) → Some (f s') ≡ fronts x (Some (f s))
some-front x f s s' same h = let some : State → Option State = λ v. Some v in let g : State → State = λ v. f v in ap some (ap g same ∙ h)

flow-start-front : (x : Token) (kind : TokenType) (s : State) → left_by (flow_start kind (in_front x s)) ≡ fronts x (left_by (flow_start kind s))
flow-start-front x kind s =
    let m = mark_of s.place in
    let f : State → State = λ v. sign kind true (record v { keys = deeper v.keys }) in
    let deep : f (in_front x (saved s)) ≡ in_front x (f (saved s)) = rw (map-append raised (saved s).keys.outer ((saved s).keys.key ∷ [])) refl in
    let same : nat_lt (length (map raised s.keys.outer)) 1023 ≡ nat_lt (length s.keys.outer) 1023 = rw length-map refl in
    fronts-if x (is_key_owed s) _ _ _ _ _ (owed-front x s) refl
    (fronts-if x (nat_lt (length s.keys.outer) 1023) _ (done (f (saved s))) _ (done (f (saved (in_front x s)))) _ same
    (some-front x f (saved s) (saved (in_front x s)) (saved-front x s) deep) refl)

shallower-front : (x : Token) (s : State) → record (in_front x s) { keys = shallower (in_front x s).keys } ≡ in_front x (record s { keys = shallower s.keys })
shallower-front x s =
    let ks : Keys = s.keys in
    let n : ℕ = length ks.outer - 1 in
    let last : Option SimpleKey = get_or ks.outer n None in
    rw (has_levels-map raised ks.outer, length-map, get_or-map raised ks.outer n None, take-map raised n ks.outer)
    (rw (push-if raised (has_levels ks.outer) last ks.key (raised last) (raised ks.key) refl refl) refl)

flow-end-front : (x : Token) (kind : TokenType) (s : State) → left_by (flow_end kind (in_front x s)) ≡ fronts x (left_by (flow_end kind s))
flow-end-front x kind s =
    let f : State → State = λ v. sign kind false v in
    let inner : State = record (keyless s) { keys = shallower (keyless s).keys } in
    let inner' : State = record (keyless (in_front x s)) { keys = shallower (keyless (in_front x s)).keys } in
    fronts-if x (is_required s.keys.key) _ _ _ _ _ (required-raised s.keys.key) refl (some-front x f inner inner' (shallower-front x (keyless s)) refl)

-- a mark that needs a place for a key, outside flow
mark-front : (x : Token) (b b' : Bool) (why : ScanInfo) (f : State → State) (s u u' : State) → b' ≡ b → u' ≡ in_front x u → f (in_front x u) ≡ in_front x (f u)
    → left_by (if b' then refused (mark_of s.place) why else done (f u')) ≡ fronts x (left_by (if b then refused (mark_of s.place) why else done (f u)))
mark-front x b b' why f s u u' same is h = fronts-if x b _ _ _ _ _ same refl (some-front x f u u' is h)

no-place : (x : Token) (s : State) → (not (in_flow (in_front x s)) && not (in_front x s).allowed) ≡ (not (in_flow s) && not s.allowed)
no-place x s = rw (has_levels-map raised s.keys.outer) refl

value-front : (x : Token) (key : Option SimpleKey) (s : State) → left_by (value_behind (raised key) (in_front x s)) ≡ fronts x (left_by (value_behind key s))
value-front x (Some key) s =
    let m = at (mark_of s.place) t.BlockMappingStart in
    let put_key : Token = at key.mark t.Key in
    let roll : State → Option State = λ v. Some (sign t.Value false (keyless (rolled key.mark.col (Some (suc key.place)) m v))) in
    let f : State → Option State = λ v. Some (sign t.Value false (keyless v)) in
    ap roll (inserted-front x key.place put_key s) ∙ ap f (rolled-front x key.mark.col (Some key.place) m (inserted key.place put_key s))
value-front x None s =
    let m = at (mark_of s.place) t.BlockMappingStart in
    let u : State = rolled s.place.col None m s in
    let f : State → State = λ v. sign t.Value (not (in_flow s)) v in
    let f' : State → State = λ v. sign t.Value (not (has_levels (map raised s.keys.outer))) v in
    let flow : f' ≡ f = rw (has_levels-map raised s.keys.outer) refl in
    let at_fun : (State → State) → Option State = λ g. left_by (if not (in_flow (in_front x s)) && not s.allowed then refused (mark_of s.place) i.S36 else done (g (rolled s.place.col None m (in_front x s)))) in
    ap at_fun flow
    ∙ mark-front x (not (in_flow s) && not s.allowed) (not (in_flow (in_front x s)) && not s.allowed) i.S36 f s u (rolled s.place.col None m (in_front x s)) (no-place x s) (rolled-front x s.place.col None m s) refl

read-front : (x : Token) (kind : TokenKind) (s : State) → left_by (read_key kind (in_front x s)) ≡ fronts x (left_by (read_key kind s))
read-front x kind s =
    fronts-if x (is_key_owed s) _ _ _ _ _ (owed-front x s) refl refl

quoted-read-front : (x : Token) (written : TScalarStyle) (r : Option Quoted) (s : State) → left_by (quoted_read written r (in_front x s)) ≡ fronts x (left_by (quoted_read written r s))
quoted-read-front x written None s = refl
quoted-read-front x written (Some r) s =
    let f : State → State = λ v. pushed (at (mark_of s.place) (t.Scalar written r.text)) (record v { allowed = false; place = r.place; adjacent = r.place.index }) in
    some-front x f (saved s) (saved (in_front x s)) (saved-front x s) refl

quoted-front : (x : Token) (written : TScalarStyle) (r : Option Quoted) (s : State)
    → left_by (if is_key_owed (in_front x s) then refused (mark_of s.place) i.S2 else quoted_read written r (in_front x s))
    ≡ fronts x (left_by (if is_key_owed s then refused (mark_of s.place) i.S2 else quoted_read written r s))
quoted-front x written r s =
    fronts-if x (is_key_owed s) _ _ _ _ _ (owed-front x s) refl (quoted-read-front x written r s)

block-read-front : (x : Token) (written : TScalarStyle) (r : Option Block) (s : State) → left_by (block_read written r (in_front x s)) ≡ fronts x (left_by (block_read written r s))
block-read-front x written None s = refl
block-read-front x written (Some r) s =
    let f : State → State = λ v. pushed (at r.mark (t.Scalar written r.text)) (record v { allowed = true; place = r.place }) in
    some-front x f (saved s) (saved (in_front x s)) (saved-front x s) refl

block-front : (x : Token) (written : TScalarStyle) (r : Option Block) (s : State)
    → left_by (if is_key_owed (in_front x s) then refused (mark_of s.place) i.S2 else block_read written r (in_front x s))
    ≡ fronts x (left_by (if is_key_owed s then refused (mark_of s.place) i.S2 else block_read written r s))
block-front x written r s =
    fronts-if x (is_key_owed s) _ _ _ _ _ (owed-front x s) refl (block-read-front x written r s)

plain-read-front : (x : Token) (r : Option Plain) (s : State) → left_by (plain_read r (in_front x s)) ≡ fronts x (left_by (plain_read r s))
plain-read-front x None s = refl
plain-read-front x (Some r) s =
    let f : State → State = λ v. pushed (at (mark_of s.place) (t.Scalar style.Plain r.text)) (record v { allowed = r.is_broken; place = r.place }) in
    some-front x f (saved s) (saved (in_front x s)) (saved-front x s) refl

plain-front : (x : Token) (s : State) → left_by (kind_step k.Plain (in_front x s)) ≡ fronts x (left_by (kind_step k.Plain s))
plain-front x s =
    let reads : Bool → Option State = λ b. left_by (plain_read (plain_from (innermost s.columns) b s.place) (in_front x s)) in
    fronts-if x (is_key_owed s) _ _ _ _ _ (owed-front x s) refl
    (ap reads (has_levels-map raised s.keys.outer) ∙ plain-read-front x (plain_from (innermost s.columns) (in_flow s) s.place) s)

document-front : (x : Token) (kind : TokenType) (s : State) → left_by (document kind (in_front x s)) ≡ fronts x (left_by (document kind s))
document-front x kind s =
    let f : State → State = λ v. pushed (at (mark_of s.place) kind) (advanced (advanced (advanced (allowing false (keyless v))))) in
    mark-front x (is_required s.keys.key) (is_required (raised s.keys.key)) i.S2 f s (unrolled None s) (unrolled None (in_front x s)) (required-raised s.keys.key) (unrolled-front x None s) refl

kind-front : (x : Token) (q : TokenKind) (s : State) → left_by (kind_step q (in_front x s)) ≡ fronts x (left_by (kind_step q s))
kind-front x k.StreamEnd s =
    let u : State = record s { place = forced s.place } in
    let f : State → State = λ v. record (pushed (at (mark_of u.place) t.StreamEnd) (allowing false (keyless v))) { ended = true } in
    mark-front x (is_required s.keys.key) (is_required (raised s.keys.key)) i.S2 f u (unrolled None u) (unrolled None (in_front x u)) (required-raised s.keys.key) (unrolled-front x None u) refl
kind-front x k.Directive s =
    fronts-if x (is_required s.keys.key) _ _ _ _ _ (required-raised s.keys.key) refl refl
kind-front x k.DocumentStart s = document-front x t.DocumentStart s
kind-front x k.DocumentEnd s = document-front x t.DocumentEnd s
kind-front x k.FlowSequenceStart s = flow-start-front x t.FlowSequenceStart s
kind-front x k.FlowMappingStart s = flow-start-front x t.FlowMappingStart s
kind-front x k.FlowSequenceEnd s = flow-end-front x t.FlowSequenceEnd s
kind-front x k.FlowMappingEnd s = flow-end-front x t.FlowMappingEnd s
kind-front x k.FlowEntry s =
    let f : State → State = λ v. sign t.FlowEntry true (keyless v) in
    mark-front x (is_required s.keys.key) (is_required (raised s.keys.key)) i.S2 f s s (in_front x s) (required-raised s.keys.key) refl refl
kind-front x k.BlockEntry s =
    let m = at (mark_of s.place) t.BlockSequenceStart in
    let f : State → State = λ v. sign t.BlockEntry true (keyless v) in
    fronts-if x (in_flow s) _ _ _ _ _ (has_levels-map raised s.keys.outer) refl
    (fronts-if x (not s.allowed) _ _ _ _ _ refl refl
    (mark-front x (is_required s.keys.key) (is_required (raised s.keys.key)) i.S2 f s (rolled s.place.col None m s) (rolled s.place.col None m (in_front x s)) (required-raised s.keys.key)
    (rolled-front x s.place.col None m s) refl))
kind-front x k.Key s =
    let m = at (mark_of s.place) t.BlockMappingStart in
    let f : State → State = λ v. sign t.Key (not (in_flow s)) (keyless v) in
    let inner : Bool → Option State = λ b. left_by (if is_required (raised s.keys.key) then refused (mark_of s.place) i.S2 else done (sign t.Key (not b) (keyless (rolled s.place.col None m (in_front x s))))) in
    fronts-if x (not (in_flow s) && not s.allowed) _ _ _ _ _ (no-place x s) refl
    (ap inner (has_levels-map raised s.keys.outer)
    ∙ mark-front x (is_required s.keys.key) (is_required (raised s.keys.key)) i.S2 f s (rolled s.place.col None m s) (rolled s.place.col None m (in_front x s)) (required-raised s.keys.key)
    (rolled-front x s.place.col None m s) refl)
kind-front x k.Value s = value-front x s.keys.key s
kind-front x k.Alias s = read-front x k.Alias s
kind-front x k.Anchor s = read-front x k.Anchor s
kind-front x k.Tag s = read-front x k.Tag s
kind-front x k.Literal s = block-front x style.Literal (block_from (innermost s.columns) true s.place) s
kind-front x k.Folded s = block-front x style.Foled (block_from (innermost s.columns) false s.place) s
kind-front x k.SingleQuoted s = quoted-front x style.SingleQuoted (single_from s.place) s
kind-front x k.DoubleQuoted s = quoted-front x style.DoubleQuoted (double_from s.place) s
kind-front x k.Plain s = plain-front x s
kind-front x (k.Refused info) s = refl

-- the fetch of the token at a state whose keys are fresh
abbrev fetch_at : State → Option State
fetch_at s = left_by (kind_step (kind_of (in_flow (unrolled (Some s.place.col) s)) s.adjacent (unrolled (Some s.place.col) s).place) (unrolled (Some s.place.col) s))

fetch-front : (x : Token) (s : State) → fetch_at (in_front x s) ≡ fronts x (fetch_at s)
fetch-front x s =
    let u : State = unrolled (Some s.place.col) s in
    let fetch : State → Option State = λ v. left_by (kind_step (kind_of (in_flow v) s.adjacent v.place) v) in
    let flow : Bool → Option State = λ b. left_by (kind_step (kind_of b s.adjacent u.place) (in_front x u)) in
    ap fetch (unrolled-front x (Some s.place.col) s) ∙ ap flow (has_levels-map raised u.keys.outer) ∙ kind-front x (kind_of (in_flow u) s.adjacent u.place) u

token-front : (x : Token) (s : State) → left_by (token_step (in_front x s)) ≡ fronts x (left_by (token_step s))
token-front x s =
    let whole : State → Option State = λ v. fetch_at v in
    fronts-if x (any_overdue (mark_of s.place) s.keys) _ _ _ _ _ (any-overdue-front x (mark_of s.place) s) refl
    (ap whole (stale-front x s) ∙ fetch-front x (stale s))

-- fetching does not see a token before the others
pub step-front : (x : Token) (s : State) → fetched (in_front x s) ≡ fronts x (fetched s)
step-front x s =
    let f : List Token → List Token = λ h. x ∷ h in
    let tokens : State → Option State = λ v. left_by (token_step v) in
    fronts-if x s.ended s.ended _ _ _ _ refl refl (fronts-if x s.started s.started _ _ _ _ refl
    (ap tokens (to_next-rekeyed f raised s.place.left s) ∙ token-front x (to_next s.place.left s)) refl)
