-- A fetch puts a token after the held ones.
use Rattle.snap_scan.proofs.Prelude.{◌≡◌, ◌≤◌, ◌++◌, ◌∷◌, [], Bool, true, false, List, Option, Some, None, Result, Ok, Err, length, length-append, subst, sym, ap, arith, if◌then◌else◌, OnOk, nat_lt, not, ◌&&◌, ScanError, Mark, mark_of, Plain, plain_from, Quoted, single_from, double_from, Token, TScalarStyle, ScanInfo, SimpleKey, TokenKind, is_required, any_overdue, State, at, in_flow, is_key_owed, to_next, Outcome, done, refused, read, Leaves, Does, plain_read, quoted_read, block_read, Block, block_from, read_key, value_behind, innermost, kind_step, token_step, at_token, stream_started, step, cond_both, cond-false}
use Rattle.snap_scan_tokens.specs.declared.token.TScalarStyle.TheVariants as style
use Rattle.snap_scan.specs.declared.kind.TokenKind.TheVariants as k

-- what is left once a refusal is out of the question
pub unrefused : (b : Bool) (m : Mark) (i : ScanInfo) (o : Outcome) (new : State) → Leaves (if b then refused m i else o) new → Leaves o new
unrefused true m i o new l = absurd l
unrefused false m i o new l = l

pub unrefused-else : (b : Bool) (m : Mark) (i : ScanInfo) (o : Outcome) (new : State) → Leaves (if b then o else refused m i) new → Leaves o new
unrefused-else true m i o new l = l
unrefused-else false m i o new l = absurd l

push-holds : (xs : List Token) (t : Token) → 1 ≤ length (xs ++ t ∷ [])
push-holds xs t = omega (arith, length-append xs (t ∷ []))

done-holds : (u new : State) → Leaves (done u) new → 1 ≤ length u.held → 1 ≤ length new.held
done-holds u new l some = let P : State → Type 0 = λ v. 1 ≤ length v.held in subst P (sym l) some

read-left : (kind : TokenKind) (u new : State) → Leaves (read kind u) new → 1 ≤ length new.held
read-left kind u new r =
    let long : length new.held ≡ length (u.held ++ at (mark_of u.place) r.token ∷ []) = ap (λ (v : State). length v.held) r.leaves in
    omega (arith, push-holds u.held (at (mark_of u.place) r.token))

read-holds : (kind : TokenKind) (s new : State) → Leaves (read_key kind s) new → 1 ≤ length new.held
read-holds kind s new l = read-left kind _ new (unrefused (is_key_owed s) _ _ _ new l)

plain-holds : (o : Option Plain) (s new : State) → Leaves (plain_read o s) new → 1 ≤ length new.held
plain-holds (Some r) s new l = done-holds _ new l.is (push-holds _ _)
plain-holds None s new l = absurd l

quoted-holds : (written : TScalarStyle) (o : Option Quoted) (s new : State) → Leaves (quoted_read written o s) new → 1 ≤ length new.held
quoted-holds written (Some r) s new l = done-holds _ new l.is (push-holds _ _)
quoted-holds written None s new l = absurd l

block-holds : (written : TScalarStyle) (o : Option Block) (s new : State) → Leaves (block_read written o s) new → 1 ≤ length new.held
block-holds written (Some r) s new l = done-holds _ new l.0.is (push-holds _ _)
block-holds written None s new l = absurd l

value-holds : (key : Option SimpleKey) (s new : State) → Leaves (value_behind key s) new → 1 ≤ length new.held
value-holds (Some key) s new l = done-holds _ new l (push-holds _ _)
value-holds None s new l = done-holds _ new (unrefused (not (in_flow s) && not s.allowed) _ _ _ new l) (push-holds _ _)

pub kind-holds : (kind : TokenKind) (s new : State) → Leaves (kind_step kind s) new → 1 ≤ length new.held
kind-holds k.Directive s new l = read-left k.Directive _ new (unrefused (is_required s.keys.key) _ _ _ new l)
kind-holds k.FlowSequenceStart s new l = done-holds _ new (unrefused-else (nat_lt (length s.keys.outer) 1023) _ _ _ new (unrefused (is_key_owed s) _ _ _ new l)) (push-holds _ _)
kind-holds k.FlowMappingStart s new l = done-holds _ new (unrefused-else (nat_lt (length s.keys.outer) 1023) _ _ _ new (unrefused (is_key_owed s) _ _ _ new l)) (push-holds _ _)
kind-holds k.BlockEntry s new l = done-holds _ new (unrefused (is_required s.keys.key) _ _ _ new (unrefused (not s.allowed) _ _ _ new (unrefused (in_flow s) _ _ _ new l))) (push-holds _ _)
kind-holds k.Key s new l = done-holds _ new (unrefused (is_required s.keys.key) _ _ _ new (unrefused (not (in_flow s) && not s.allowed) _ _ _ new l)) (push-holds _ _)
kind-holds k.Value s new l = value-holds s.keys.key s new l
kind-holds (k.Refused info) s new l = absurd l
kind-holds k.Alias s new l = read-holds k.Alias s new l
kind-holds k.Anchor s new l = read-holds k.Anchor s new l
kind-holds k.Tag s new l = read-holds k.Tag s new l
kind-holds k.Literal s new l = block-holds style.Literal (block_from (innermost s.columns) true s.place) s new (unrefused (is_key_owed s) _ _ _ new l)
kind-holds k.Folded s new l = block-holds style.Foled (block_from (innermost s.columns) false s.place) s new (unrefused (is_key_owed s) _ _ _ new l)
kind-holds k.SingleQuoted s new l = quoted-holds style.SingleQuoted (single_from s.place) s new (unrefused (is_key_owed s) _ _ _ new l)
kind-holds k.DoubleQuoted s new l = quoted-holds style.DoubleQuoted (double_from s.place) s new (unrefused (is_key_owed s) _ _ _ new l)
kind-holds k.Plain s new l = plain-holds (plain_from (innermost s.columns) (in_flow s) s.place) s new (unrefused (is_key_owed s) _ _ _ new l)
kind-holds other s new l = done-holds _ new (unrefused (is_required s.keys.key) _ _ _ new l) (push-holds _ _)

token-holds : (s new : State) → Leaves (token_step s) new → 1 ≤ length new.held
token-holds s new l = kind-holds _ (at_token s) new (unrefused (any_overdue (mark_of s.place) s.keys) _ _ _ new l)

-- one fetch, where StreamEnd wasn't made yet
pub step-holds : (s new : State) → s.ended ≡ false → Leaves (step s) new → 1 ≤ length new.held
step-holds s new going l =
    let P : Outcome → Type 0 = λ o. Leaves o new → 1 ≤ length new.held in
    let fetch = cond_both s.started (token_step (to_next s.place.left s)) (done (stream_started s)) P (λ _. token-holds (to_next s.place.left s) new) (λ _ m. done-holds (stream_started s) new m (push-holds _ _)) in
    subst P (sym (cond-false s.ended (done s) _ going)) fetch l

-- a call that does one fetch, where StreamEnd wasn't made yet, leaves a held token
pub more-held : {T : Type 0} (r : Result T ScanError) (s new : State) → s.ended ≡ false → Does (step s) r new → OnOk r (1 ≤ length new.held)
more-held (Ok x) s new going does = step-holds s new going does
more-held (Err e) s new going does = tt
