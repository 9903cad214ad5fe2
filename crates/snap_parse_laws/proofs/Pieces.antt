-- One fetch where a state settles.
use Rattle.snap_parse_laws.proofs.Prelude.{◌≡◌, ℕ, ◌+◌, List, [], ◌∷◌, ◌++◌, Bool, true, false, refl, ap, ◌∙◌, arith, Some, Option, map, nat_lt, nat_tests, ◌||◌, ◌==◌, if◌then◌else◌, no_gap, Mark, Place, mark_of, plain, plain_from, Quoted, double_from, Token, Outcome, done, refused, stream_started, kind_step, any_overdue, kind_of, State, unrolled, kept, ends, is_deeper, is_right_of, at, left_by, fetched, type_of, arrived, settled, here, calm, Settles, closing}
use Rattle.snap_scan_tokens.specs.declared.info.ScanInfo.TheVariants as info
use Rattle.snap_scan_tokens.specs.declared.token.TokenType.TheVariants as t
use Rattle.snap_scan_tokens.specs.declared.token.TScalarStyle.TheVariants as style
use Rattle.snap_scan.specs.declared.kind.TokenKind.TheVariants as k
use Rattle.snap_parse_laws.proofs.Ends.{outside, key_of}
use Rattle.snap_scan.proofs.Owing.{fetch_at}

going-on : (b c d : Bool) (x y z w : Outcome) → b ≡ false → c ≡ true → d ≡ false → (if b then x else (if c then (if d then y else z) else w)) ≡ z
going-on b c d x y z w p q r = rw (p, q, r) refl

-- what is fetched where a state settles
pub fetch-settled : (s u : State) → s.started ≡ true → s.ended ≡ false → any_overdue (mark_of (arrived s).place) (arrived s).keys ≡ false → settled s ≡ u
    → fetched s ≡ left_by (fetch_at u)
fetch-settled s u started ended timely is =
    let late : Bool = any_overdue (mark_of (arrived s).place) (arrived s).keys in
    let at_state : State → Option State = λ v. left_by (fetch_at v) in
    ap left_by (going-on s.ended s.started late (done s) (refused (mark_of (arrived s).place) info.S1) (fetch_at (settled s)) (done (stream_started s)) ended started timely)
    ∙ ap at_state is

pub step-at : (b : Bool) (s : State) (p : Place) (h : List Token) (columns : List ℕ) (is : Settles b s p h columns)
    → fetched s ≡ left_by (kind_step (kind_of false is.adjacent p) (unrolled (Some p.col) (calm b is.adjacent p h columns)))
step-at b s p h columns is = fetch-settled s (calm b is.adjacent p h columns) is.started is.ended is.timely is.calm

pub kept-deeper : (j : ℕ) (os : List ℕ) → is_deeper j os ≡ true → kept (Some j) os ≡ os
kept-deeper j [] h = refl
kept-deeper j (o ∷ os) h = let e : nat_lt j o ≡ false = grind (arith, nat_tests) in rw e refl

pub ends-deeper : (m : Mark) (j : ℕ) (os : List ℕ) → is_deeper j os ≡ true → ends m (Some j) os ≡ []
ends-deeper m j [] h = refl
ends-deeper m j (o ∷ os) h = let e : nat_lt j o ≡ false = grind (arith, nat_tests) in rw e refl

if-types : (b : Bool) (t : Token) (ts : List Token) → map type_of (if b then t ∷ ts else []) ≡ (if b then type_of t ∷ map type_of ts else [])
if-types true t ts = refl
if-types false t ts = refl

pub types-ends : (m : Mark) (c : Option ℕ) (os : List ℕ) → map type_of (ends m c os) ≡ closing c os
types-ends m c [] = refl
types-ends m c (o ∷ os) = if-types (is_right_of c o) (at m t.BlockEnd) (ends m c os) ∙ rw (types-ends m c os) refl

pub plain_from-letter : (c : ℕ) (tail : List ℕ) (indent : Option ℕ) (i l j : ℕ) → (c == 32 || c == 9) ≡ false → (c == 10) ≡ false
    → plain_from indent false (here (c ∷ tail) i l j) ≡ plain indent false no_gap (c ∷ []) tail (here tail (i + 1) l (j + 1))
plain_from-letter c tail indent i l j blank h = rw (blank, h) refl

pub read-quote : (b : Bool) (a : ℕ) (p : Place) (h : List Token) (os : List ℕ) (r : Quoted) → double_from p ≡ Some r
    → left_by (kind_step k.DoubleQuoted (calm b a p h os))
    ≡ Some (outside (key_of b p h) r.place.index r.place (h ++ at (mark_of p) (t.Scalar style.DoubleQuoted r.text) ∷ []) os)
read-quote true a p h os r is = rw is refl
read-quote false a p h os r is = rw is refl
