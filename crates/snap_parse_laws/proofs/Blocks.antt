-- A printed block is read as its text.
use Rattle.snap_parse_laws.proofs.Prelude.{◌≡◌, ℕ, zero, suc, ◌+◌, ◌≤◌, List, [], ◌∷◌, ◌++◌, Bool, true, false, not, refl, sym, ap, ◌∙◌, arith, add-zero, zero-add, append-nil, append_assoc, Some, None, Option, nat_lt, nat_tests, subst, ◌⊎◌, inl, inr, ◌||◌, ◌==◌, slice_index, Mark, is_blank, is_break, is_deeper, innermost, blanks, line_ends, empty_lines, shifted, block_at, is_block, is_block_tail, here, or_parts, and_parts, not_true, and_nothing}
use Rattle.std.proofs.lemmas.Bool.{eqb-true}
use Rattle.snap_scan_blocks.specs.declared.header.Chomping.{Chomping}
use Rattle.snap_scan_blocks.specs.declared.header.Chomping.TheVariants.{Strip, Clip, Keep}
use Rattle.snap_scan_blocks.specs.declared.header.Header.{Header}
use Rattle.snap_scan_blocks.specs.declared.lines.Lines.{Lines}
use Rattle.snap_scan_blocks.specs.Lines.{no_lines, chomped}
use Rattle.snap_scan_blocks.specs.Block.{Read, between, within, stop, widest, first_sign, right_of, indentation_of, is_bad_tab, lines_from, Block, block_of, block_from}
use Rattle.snap_parse_laws.proofs.Skips.{stops_at}

-- lines that were read, the last of which is open, and lines that have ended
abbrev open_lines : List ℕ → Bool → Lines
open_lines u d = record { text = u; is_ended = false; is_deeper = d; breaks = [] }

abbrev ended_lines : List ℕ → Bool → List ℕ → Lines
ended_lines u d b = record { text = u; is_ended = true; is_deeper = d; breaks = b }

-- what follows a block of the indentation n: a line at a column left of it, or the end
pub record Below (n m : ℕ) (cs : List ℕ) : Type 0 where
  pub stop : stops_at (slice_index cs 0) ≡ false
  pub fits : m ≤ n
  pub out : (cs ≡ []) ⊎ ((m == n) ≡ false)

-- lines are read up to there
record ReadTo (o : Option Read) (u b : List ℕ) (m : ℕ) (cs : List ℕ) (l : ℕ) : Type 0 where
  deeper : Bool
  index : ℕ
  line : ℕ
  later : l + 1 ≤ line
  is : o ≡ Some (record { lines = ended_lines u deeper b; place = here cs index line m })

read-by : (o p : Option Read) (u b : List ℕ) (m : ℕ) (cs : List ℕ) (l : ℕ) → o ≡ p → ReadTo p u b m cs l → ReadTo o u b m cs l
read-by o p u b m cs l same r = record { deeper = r.deeper; index = r.index; line = r.line; later = r.later; is = same ∙ r.is }

pass-blanks : (k n : ℕ) (ls : Lines) (cs : List ℕ) (i l j : ℕ) → j + k ≤ n
    → between n true ls (blanks k ++ cs) (here (blanks k ++ cs) i l j) ≡ between n true ls cs (here cs (i + k) l (j + k))
pass-blanks zero n ls cs i l j fits = rw (add-zero i, add-zero j) refl
pass-blanks (suc k) n ls cs i l j fits =
    let right : nat_lt j n ≡ true = grind (arith, nat_tests) in
    let e : i + 1 + k ≡ i + suc k = omega arith in
    let f : j + 1 + k ≡ j + suc k = omega arith in
    rw (right, ← e, ← f) (pass-blanks k n ls cs (i + 1) l (j + 1) (omega arith))

-- the blanks in front of a whole line
pass-indentation : (n : ℕ) (ls : Lines) (cs : List ℕ) (i l : ℕ)
    → between n true ls (blanks n ++ cs) (here (blanks n ++ cs) i l 0) ≡ between n true ls cs (here cs (i + n) l n)
pass-indentation n ls cs i l =
    let P : ℕ → Type 0 = λ x. between n true ls (blanks n ++ cs) (here (blanks n ++ cs) i l 0) ≡ between n true ls cs (here cs (i + n) l x) in
    subst P (zero-add n) (pass-blanks n n ls cs i l 0 (omega arith))

last-either : (a b : Bool) → b ≡ true → a || b ≡ true
last-either true b h = refl
last-either false b h = h

outside : (c : ℕ) (cs : List ℕ) (m n : ℕ) → ((c ∷ cs) ≡ []) ⊎ ((m == n) ≡ false) → not (m == n) ≡ true
outside c cs m n (inl none) = absurd (cc)
outside c cs m n (inr out) = rw out refl

stops-there : (n m : ℕ) (cs : List ℕ) → Below n m cs → (ls : Lines) (i l : ℕ) → between n true ls cs (here cs i l m) ≡ stop ls (here cs i l m)
stops-there n m [] below ls i l = refl
stops-there n m (c ∷ cs) below ls i l =
    let first = or_parts (is_blank c || is_break c) (c == 35) below.stop in
    let two = or_parts (is_blank c) (is_break c) first.0 in
    let blank = or_parts (c == 32) (c == 9) two.0 in
    let past : (c == 0 || not (m == n)) ≡ true = last-either (c == 0) (not (m == n)) (outside c cs m n below.out) in
    rw (blank.0, blank.1, two.1, past) refl

-- the empty lines after a block
behind-block : (t n m : ℕ) (cs : List ℕ) → Below n m cs → (u b : List ℕ) (d : Bool) (i l l0 : ℕ) → l0 + 1 ≤ l
    → ReadTo (between n true (ended_lines u d b) (line_ends t ++ (blanks m ++ cs)) (here (line_ends t ++ (blanks m ++ cs)) i l 0)) u (b ++ line_ends t) m cs l0
behind-block zero n m cs below u b d i l l0 later =
    let ls : Lines = ended_lines u d b in
    let P : List ℕ → Type 0 = λ x. ReadTo (between n true ls (blanks m ++ cs) (here (blanks m ++ cs) i l 0)) u x m cs l0 in
    let Q : ℕ → Type 0 = λ x. between n true ls (blanks m ++ cs) (here (blanks m ++ cs) i l 0) ≡ between n true ls cs (here cs (i + m) l x) in
    let passed = subst Q (zero-add m) (pass-blanks m n ls cs i l 0 (omega (arith, below.fits, zero-add m))) in
    subst P (sym (append-nil b)) (record { deeper = d; index = i + m; line = l; later = later; is = passed ∙ stops-there n m cs below ls (i + m) l })
behind-block (suc t) n m cs below u b d i l l0 later =
    let P : List ℕ → Type 0 = λ x. ReadTo (between n true (ended_lines u d (b ++ 10 ∷ [])) (line_ends t ++ (blanks m ++ cs)) (here (line_ends t ++ (blanks m ++ cs)) (i + 1) (l + 1) 0)) u x m cs l0 in
    subst P (append_assoc b (10 ∷ []) (line_ends t)) (behind-block t n m cs below u (b ++ 10 ∷ []) d (i + 1) (l + 1) l0 (omega arith))

-- what stands after the text of a block
abbrev rest_of : ℕ → ℕ → List ℕ → List ℕ
rest_of t m cs = 10 ∷ (line_ends t ++ (blanks m ++ cs))

-- the text is read on inside a line, and at the beginning of one
abbrev Inside : List ℕ → Type 0
Inside w =
    (n t m : ℕ) (cs : List ℕ) → Below n m cs → is_block_tail false w ≡ true → (u : List ℕ) (d : Bool) (i l j l0 : ℕ) → l0 ≤ l
    → ReadTo (within n true (open_lines u d) (shifted n w ++ rest_of t m cs) (here (shifted n w ++ rest_of t m cs) i l j)) (u ++ w) (line_ends t) m cs l0

abbrev AtLine : List ℕ → Type 0
AtLine w =
    (n t m : ℕ) (cs : List ℕ) → Below n m cs → is_block_tail true w ≡ true → (u b : List ℕ) (d : Bool) (i l l0 : ℕ) → l0 + 1 ≤ l
    → ReadTo (between n true (ended_lines u d b) (shifted n w ++ rest_of t m cs) (here (shifted n w ++ rest_of t m cs) i l n)) (u ++ (10 ∷ (b ++ w))) (line_ends t) m cs l0

inside-end : Inside []
inside-end n t m cs below h u d i l j l0 later =
    let P : List ℕ → Type 0 = λ x. ReadTo (between n true (ended_lines u d []) (line_ends t ++ (blanks m ++ cs)) (here (line_ends t ++ (blanks m ++ cs)) (i + 1) (l + 1) 0)) x (line_ends t) m cs l0 in
    subst P (sym (append-nil u)) (behind-block t n m cs below u [] d (i + 1) (l + 1) l0 (omega arith))

-- a line's end, and the blanks of the next
next-line : (n t m : ℕ) (w cs : List ℕ) (u b v : List ℕ) (d : Bool) (i l l0 : ℕ)
    → ReadTo (between n true (ended_lines u d b) (shifted n w ++ rest_of t m cs) (here (shifted n w ++ rest_of t m cs) (i + n) l n)) v (line_ends t) m cs l0
    → ReadTo (between n true (ended_lines u d b) (blanks n ++ shifted n w ++ rest_of t m cs) (here (blanks n ++ shifted n w ++ rest_of t m cs) i l 0)) v (line_ends t) m cs l0
next-line n t m w cs u b v d i l l0 there =
    let ls : Lines = ended_lines u d b in
    let rest : List ℕ = shifted n w ++ rest_of t m cs in
    let at : List ℕ → Option Read = λ x. between n true ls x (here x i l 0) in
    let same : at (blanks n ++ shifted n w ++ rest_of t m cs) ≡ between n true ls rest (here rest (i + n) l n) =
    ap at (append_assoc (blanks n) (shifted n w) (rest_of t m cs)) ∙ pass-indentation n ls rest i l in
    read-by _ _ v (line_ends t) m cs l0 same there

inside-break : (w : List ℕ) → AtLine w → Inside (10 ∷ w)
inside-break w line n t m cs below h u d i l j l0 later =
    next-line n t m w cs u [] (u ++ (10 ∷ w)) d (i + 1) (l + 1) l0 (line n t m cs below h u [] d (i + 1 + n) (l + 1) l0 (omega arith))

at-line-break : (w : List ℕ) → AtLine w → AtLine (10 ∷ w)
at-line-break w line n t m cs below h u b d i l l0 later =
    let P : List ℕ → Type 0 = λ x. ReadTo (between n true (ended_lines u d (b ++ 10 ∷ [])) (blanks n ++ shifted n w ++ rest_of t m cs) (here (blanks n ++ shifted n w ++ rest_of t m cs) (i + 1) (l + 1) 0)) (u ++ (10 ∷ x)) (line_ends t) m cs l0 in
    subst P (append_assoc b (10 ∷ []) w)
    (next-line n t m w cs u (b ++ 10 ∷ []) (u ++ (10 ∷ (b ++ 10 ∷ [] ++ w))) d (i + 1) (l + 1) l0 (line n t m cs below h u (b ++ 10 ∷ []) d (i + 1 + n) (l + 1) l0 (omega arith)))

-- a character of the text that is no line end
record IsInLine (c : ℕ) (w : List ℕ) : Type 0 where
  feed : (c == 10) ≡ false
  return : (c == 13) ≡ false
  nul : (c == 0) ≡ false
  on : is_block_tail false w ≡ true

in-line : (ended : Bool) (c : ℕ) (w : List ℕ) → (c == 10) ≡ false → is_block_tail ended (c ∷ w) ≡ true → IsInLine c w
in-line ended c w feed h =
    let two = and_parts (not (c == 13 || c == 0)) (is_block_tail (c == 10) w) h in
    let none = or_parts (c == 13) (c == 0) (not_true (c == 13 || c == 0) two.0) in
    record { feed = feed; return = none.0; nul = none.1; on = rw feed at two.1 }

inside-more : (c : ℕ) (w : List ℕ) → Inside w → (c == 10) ≡ false → Inside (c ∷ w)
inside-more c w onward feed n t m cs below h u d i l j l0 later =
    let is = in-line false c w feed h in
    let on = onward n t m cs below is.on (u ++ c ∷ []) d (i + 1) l (j + 1) l0 later in
    let P : List ℕ → Type 0 = λ x. ReadTo (within n true (open_lines (u ++ c ∷ []) d) (shifted n w ++ rest_of t m cs) (here (shifted n w ++ rest_of t m cs) (i + 1) l (j + 1))) x (line_ends t) m cs l0 in
    rw (is.feed, is.feed, is.return, is.nul) (subst P (append_assoc u (c ∷ []) w) on)

at-line-more : (c : ℕ) (w : List ℕ) → Inside w → (c == 10) ≡ false → AtLine (c ∷ w)
at-line-more c w onward feed n t m cs below h u b d i l l0 later =
    let is = in-line true c w feed h in
    let level : nat_lt n n ≡ false = grind (arith, nat_tests) in
    let same : (n == n) ≡ true = grind (arith, nat_tests) in
    let v : List ℕ = u ++ 10 ∷ [] ++ b ++ c ∷ [] in
    let on = onward n t m cs below is.on v (is_blank c) (i + 1) l (n + 1) l0 (omega arith) in
    let e : v ++ w ≡ u ++ (10 ∷ (b ++ (c ∷ w))) = simp append_assoc in
    let P : List ℕ → Type 0 = λ x. ReadTo (within n true (open_lines v (is_blank c)) (shifted n w ++ rest_of t m cs) (here (shifted n w ++ rest_of t m cs) (i + 1) l (n + 1))) x (line_ends t) m cs l0 in
    rw (is.feed, is.feed, is.return, is.nul, level, same, and_nothing (c == 32), and_nothing (c == 9)) (subst P e on)

inside-by : (q : Bool) (c : ℕ) (w : List ℕ) → Inside w → AtLine w → (c == 10) ≡ q → Inside (c ∷ w)
inside-by true c w onward line e = let P : ℕ → Type 0 = λ x. Inside (x ∷ w) in subst P (sym (eqb-true c 10 e)) (inside-break w line)
inside-by false c w onward line e = inside-more c w onward e

at-line-by : (q : Bool) (c : ℕ) (w : List ℕ) → Inside w → AtLine w → (c == 10) ≡ q → AtLine (c ∷ w)
at-line-by true c w onward line e = let P : ℕ → Type 0 = λ x. AtLine (x ∷ w) in subst P (sym (eqb-true c 10 e)) (at-line-break w line)
at-line-by false c w onward line e = at-line-more c w onward e

mutual
  inside : (w : List ℕ) → Inside w
  inside [] = inside-end
  inside (c ∷ w) = inside-by (c == 10) c w (inside w) (at-line w) refl

  at-line : (w : List ℕ) → AtLine w
  at-line [] = λ n t m cs below h u b d i l l0 later. absurd (cc)
  at-line (c ∷ w) = at-line-by (c == 10) c w (inside w) (at-line w) refl

-- how the text of a block begins
record Begins (c : ℕ) (w : List ℕ) : Type 0 where
  space : (c == 32) ≡ false
  tab : (c == 9) ≡ false
  feed : (c == 10) ≡ false
  return : (c == 13) ≡ false
  nul : (c == 0) ≡ false
  on : is_block_tail false w ≡ true

begins : (c : ℕ) (w : List ℕ) → is_block (c ∷ w) ≡ true → Begins c w
begins c w h =
    let two = and_parts (not (is_blank c || is_break c || c == 0)) (is_block_tail false w) h in
    let nul = or_parts (is_blank c || is_break c) (c == 0) (not_true (is_blank c || is_break c || c == 0) two.0) in
    let both = or_parts (is_blank c) (is_break c) nul.0 in
    let blank = or_parts (c == 32) (c == 9) both.0 in
    let broken = or_parts (c == 10) (c == 13) both.1 in
    record { space = blank.0; tab = blank.1; feed = broken.0; return = broken.1; nul = nul.1; on = two.1 }

widest-blanks : (n : ℕ) (cs : List ℕ) (col : ℕ) → widest (blanks n ++ cs) col ≡ widest cs (col + n)
widest-blanks zero cs col = rw (add-zero col) refl
widest-blanks (suc n) cs col = let e : col + 1 + n ≡ col + suc n = omega arith in rw (← e) (widest-blanks n cs (col + 1))

sign-blanks : (n : ℕ) (cs : List ℕ) → first_sign (blanks n ++ cs) ≡ first_sign cs
sign-blanks zero cs = refl
sign-blanks (suc n) cs = sign-blanks n cs

-- the content of a block
abbrev content : ℕ → ℕ → List ℕ → ℕ → List ℕ → List ℕ
content n t w m cs = blanks n ++ (shifted n w ++ rest_of t m cs)

right-of-block : (os : List ℕ) (n : ℕ) → is_deeper n os ≡ true → 1 ≤ n → right_of (innermost os) 1 ≤ n
right-of-block [] n deep some = some
right-of-block (o ∷ os) n deep some = grind (arith, nat_tests)

lines-there : (os : List ℕ) (n t m : ℕ) (w cs : List ℕ) → is_deeper n os ≡ true → 1 ≤ n → is_block w ≡ true → Below n m cs → (i l : ℕ)
    → ReadTo (lines_from None (innermost os) true no_lines (here (content n t w m cs) i l 0)) w (line_ends t) m cs l
lines-there os n t m [] cs deep some h below i l = absurd (cc)
lines-there os n t m (c ∷ w) cs deep some h below i l =
    let is = begins c w h in
    let indent : Option ℕ = innermost os in
    let rest : List ℕ = c ∷ (shifted n w ++ rest_of t m cs) in
    let all : List ℕ = blanks n ++ rest in
    let level : nat_lt n n ≡ false = grind (arith, nat_tests) in
    let same : (n == n) ≡ true = grind (arith, nat_tests) in
    let first : (c == 9) ≡ false = is.tab in
    let tab : is_bad_tab None (here all i l 0) ≡ false = rw (sign-blanks n rest, is.space, is.feed, is.return) first in
    let width : widest all 0 ≡ n = widest-blanks n rest 0 ∙ rw (is.space, is.feed, is.return) (zero-add n) in
    let inner = right-of-block os n deep some in
    let wide : indentation_of None indent (here all i l 0) ≡ n = rw width (omega (arith, inner)) in
    let on = inside w n t m cs below is.on (c ∷ []) (is_blank c) (i + n + 1) l (n + 1) l (omega arith) in
    let e : between n true no_lines rest (here rest (i + n) l n) ≡ within n true (open_lines (c ∷ []) (is_blank c)) (shifted n w ++ rest_of t m cs) (here (shifted n w ++ rest_of t m cs) (i + n + 1) l (n + 1)) =
    rw (is.space, is.tab, is.feed, is.return, is.nul, same) refl in
    let from : lines_from None indent true no_lines (here all i l 0) ≡ between n true no_lines all (here all i l 0) = rw (tab, wide) refl in
    let whole = read-by _ _ (c ∷ w) (line_ends t) m cs l (from ∙ pass-indentation n no_lines rest i l ∙ e) on in
    rw is.feed whole

-- a block is read up to there
pub record BlockTo (o : Option Block) (text : List ℕ) (m : ℕ) (cs : List ℕ) (l : ℕ) : Type 0 where
  pub mark : Mark
  pub index : ℕ
  pub line : ℕ
  pub later : l + 1 ≤ line
  pub is : o ≡ Some (record { text = text; mark = mark; place = here cs index line m })

abbrev header_with : Chomping → Header
header_with chomping = record { chomping = chomping; indentation = None }

block-to : (chomping : Chomping) (mark : Mark) (o : Option Read) (w b text : List ℕ) (m : ℕ) (cs : List ℕ) (l : ℕ) → ((d : Bool) → chomped chomping (ended_lines w d b) ≡ text) → ReadTo o w b m cs (l + 1)
    → BlockTo (block_of (header_with chomping) mark o) text m cs l
block-to chomping mark o w b text m cs l chomps r =
    let of : Option Read → Option Block = λ x. block_of (header_with chomping) mark x in
    let made : List ℕ → Option Block = λ x. Some (record { text = x; mark = mark; place = here cs r.index r.line m }) in
    let later = r.later in
    record { mark = mark; index = r.index; line = r.line; later = omega (arith, later); is = ap of r.is ∙ ap made (chomps r.deeper) }

pub read-block : (kept : ℕ) (more : Bool) (os : List ℕ) (n m : ℕ) (w cs : List ℕ) → is_deeper n os ≡ true → 1 ≤ n → is_block w ≡ true → Below n m cs → (i l j : ℕ)
    → BlockTo (block_from (innermost os) true (here (block_at n w kept more ++ (blanks m ++ cs)) i l j)) (w ++ line_ends kept) m cs l
read-block zero more os n m w cs deep some h below i l j =
    let t : ℕ = empty_lines more zero in
    let all : List ℕ = content n t w m cs in
    let P : List ℕ → Type 0 = λ x. BlockTo (block_from (innermost os) true (here (124 ∷ 45 ∷ 10 ∷ x) i l j)) (w ++ []) m cs l in
    let e : all ≡ blanks n ++ (shifted n w ++ (10 ∷ line_ends t)) ++ (blanks m ++ cs) = simp append_assoc in
    let lines = lines-there os n t m w cs deep some h below (i + 1 + 1 + 1) (l + 1) in
    subst P e (block-to Strip _ _ w (line_ends t) (w ++ []) m cs l (λ d. sym (append-nil w)) lines)
read-block (suc zero) more os n m w cs deep some h below i l j =
    let t : ℕ = empty_lines more (suc zero) in
    let all : List ℕ = content n t w m cs in
    let P : List ℕ → Type 0 = λ x. BlockTo (block_from (innermost os) true (here (124 ∷ 10 ∷ x) i l j)) (w ++ 10 ∷ []) m cs l in
    let e : all ≡ blanks n ++ (shifted n w ++ (10 ∷ line_ends t)) ++ (blanks m ++ cs) = simp append_assoc in
    let lines = lines-there os n t m w cs deep some h below (i + 1 + 1) (l + 1) in
    subst P e (block-to Clip _ _ w (line_ends t) (w ++ 10 ∷ []) m cs l (λ d. refl) lines)
read-block (suc (suc k)) more os n m w cs deep some h below i l j =
    let all : List ℕ = content n (suc k) w m cs in
    let P : List ℕ → Type 0 = λ x. BlockTo (block_from (innermost os) true (here (124 ∷ 43 ∷ 10 ∷ x) i l j)) (w ++ line_ends (suc (suc k))) m cs l in
    let e : all ≡ blanks n ++ (shifted n w ++ (10 ∷ line_ends (suc k))) ++ (blanks m ++ cs) = simp append_assoc in
    let lines = lines-there os n (suc k) m w cs deep some h below (i + 1 + 1 + 1) (l + 1) in
    subst P e (block-to Keep _ _ w (line_ends (suc k)) (w ++ line_ends (suc (suc k))) m cs l (λ d. append_assoc w (10 ∷ []) (line_ends (suc k))) lines)
