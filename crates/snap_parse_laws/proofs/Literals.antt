-- A literal block is fetched, and what follows it is reached.
use Rattle.snap_parse_laws.proofs.Prelude.{◌≡◌, ℕ, zero, suc, List, [], ◌∷◌, ◌++◌, Bool, true, false, refl, ap, ◌∙◌, arith, append_assoc, inl, inr, Some, Option, nat_lt, nat_tests, ◌==◌, slice_index, Mark, Place, mark_of, Token, kind_step, innermost, kind_of, State, kept, ends, is_right_of, at, pushed, saved, TokenKind, blanks, block_sign, left_by, fetched, here, calm, Settles, and_nothing}
use Rattle.snap_scan_tokens.specs.declared.token.TokenType.TheVariants as t
use Rattle.snap_scan_tokens.specs.declared.token.TScalarStyle.TheVariants as style
use Rattle.snap_scan.specs.declared.kind.TokenKind.TheVariants as k
use Rattle.snap_scan_blocks.specs.Block.{Block, block_from}
use Rattle.snap_parse_laws.proofs.Arrivals.{Arrived, of-settled}
use Rattle.snap_parse_laws.proofs.Blocks.{Below}
use Rattle.snap_parse_laws.proofs.Forms.{Follows, at_column, at_end}
use Rattle.snap_parse_laws.proofs.Pieces.{step-at}
use Rattle.snap_parse_laws.proofs.Skips.{stops_at, to_next-stops, settles-by}

pub begins-block : (count : ℕ) (rest more : List ℕ) → stops_at (slice_index (block_sign count ++ rest ++ more) 0) ≡ false
begins-block zero rest more = refl
begins-block (suc zero) rest more = refl
begins-block (suc (suc n)) rest more = refl

-- what follows stands left of the lines of a block
pub follows-below : (c : Option ℕ) (m n : ℕ) (cs : List ℕ) → Follows c m cs → stops_at (slice_index cs 0) ≡ false → is_right_of c n ≡ true → Below n m cs
follows-below _ _ n _ (at_column m cs) stop right = record { stop = stop; fits = grind (arith, nat_tests); out = inr (grind (arith, nat_tests)) }
follows-below _ _ n _ at_end stop right = record { stop = stop; fits = omega arith; out = inl refl }

pub block-arrived : (c : Option ℕ) (m : ℕ) (cs : List ℕ) → Follows c m cs → (s : State) (h : List Token) (os : List ℕ) (index line : ℕ) → Settles true s (here cs index line m) h os → Arrived c s h os cs
block-arrived _ _ _ (at_column m cs) s h os index line stands = record { index = index; line = line; arrives = stands }
block-arrived _ _ _ at_end s h os index line stands = record { index = index; line = line; arrives = of-settled s index line 0 h os stands }

pub record BlockStep (s : State) (before : List Token) (text : List ℕ) (mark : Mark) (index line m : ℕ) (cs : List ℕ) (os : List ℕ) : Type 0 where
  pub to : State
  pub fetches : fetched s ≡ Some to
  pub settles : Settles true to (here cs index line m) (before ++ at mark (t.Scalar style.Literal text) ∷ []) os

bar-kind : (a : ℕ) (x : List ℕ) (i l j : ℕ) → kind_of false a (here (124 ∷ x) i l j) ≡ k.Literal
bar-kind a x i l j = rw (and_nothing (j == 0)) refl

sign-kind : (count a : ℕ) (x : List ℕ) (i l j : ℕ) → kind_of false a (here (block_sign count ++ x) i l j) ≡ k.Literal
sign-kind zero a x i l j = bar-kind a (45 ∷ x) i l j
sign-kind (suc zero) a x i l j = bar-kind a x i l j
sign-kind (suc (suc n)) a x i l j = bar-kind a (43 ∷ x) i l j

abbrev pub with_block : Bool → ℕ → Place → List Token → List ℕ → Block → State
with_block b a p h os r = pushed (at r.mark (t.Scalar style.Literal r.text)) (record (saved (calm b a p h os)) { allowed = true; place = r.place })

read-literal : (b : Bool) (a : ℕ) (p : Place) (h : List Token) (os : List ℕ) (r : Block) → block_from (innermost os) true p ≡ Some r
    → left_by (kind_step k.Literal (calm b a p h os)) ≡ Some (with_block b a p h os r)
read-literal true a p h os r is = rw is refl
read-literal false a p h os r is = rw is refl

settles-block : (b : Bool) (a : ℕ) (p : Place) (h : List Token) (os text cs : List ℕ) (mark : Mark) (i line m : ℕ) → stops_at (slice_index cs 0) ≡ false → nat_lt p.line line ≡ true
    → Settles true (with_block b a p h os (record { text = text; mark = mark; place = here cs i line m })) (here cs i line m) (h ++ at mark (t.Scalar style.Literal text) ∷ []) os
settles-block true a p h os text cs mark i line m stop later =
    let q : Place = here cs i line m in
    let u : State = with_block true a p h os (record { text = text; mark = mark; place = q }) in
    settles-by true a u u q (h ++ at mark (t.Scalar style.Literal text) ∷ []) os refl refl (to_next-stops cs u stop) refl (rw later refl)
settles-block false a p h os text cs mark i line m stop later =
    let q : Place = here cs i line m in
    let u : State = with_block false a p h os (record { text = text; mark = mark; place = q }) in
    settles-by true a u u q (h ++ at mark (t.Scalar style.Literal text) ∷ []) os refl refl (to_next-stops cs u stop) refl refl

pub step-block : (b : Bool) (s : State) (count : ℕ) (below text cs : List ℕ) (i l j m index line : ℕ) (mark : Mark) (h : List Token) (columns os : List ℕ)
    → Settles b s (here (block_sign count ++ below ++ (blanks m ++ cs)) i l j) h columns → kept (Some j) columns ≡ os
    → block_from (innermost os) true (here (block_sign count ++ below ++ (blanks m ++ cs)) i l j) ≡ Some (record { text = text; mark = mark; place = here cs index line m })
    → stops_at (slice_index cs 0) ≡ false → nat_lt l line ≡ true
    → BlockStep s (h ++ ends (mark_of (here (block_sign count ++ below ++ (blanks m ++ cs)) i l j)) (Some j) columns) text mark index line m cs os
step-block b s count below text cs i l j m index line mark h columns os is same read stop later =
    let tail : List ℕ = blanks m ++ cs in
    let all : List ℕ = block_sign count ++ below ++ tail in
    let p : Place = here all i l j in
    let before : List Token = h ++ ends (mark_of p) (Some j) columns in
    let r : Block = record { text = text; mark = mark; place = here cs index line m } in
    let kinds : TokenKind → Option State = λ q. left_by (kind_step q (calm b is.adjacent p before (kept (Some j) columns))) in
    let opened : List ℕ → Option State = λ o. left_by (kind_step k.Literal (calm b is.adjacent p before o)) in
    let kind_at : List ℕ → TokenKind = λ x. kind_of false is.adjacent (here x i l j) in
    let literal : kind_of false is.adjacent p ≡ k.Literal = ap kind_at (append_assoc (block_sign count) below tail) ∙ sign-kind count is.adjacent (below ++ tail) i l j in
    record {
      to = with_block b is.adjacent p before os r;
      fetches = step-at b s p h columns is ∙ ap kinds literal ∙ ap opened same ∙ read-literal b is.adjacent p before os r read;
      settles = settles-block b is.adjacent p before os text cs mark index line m stop later;
    }
