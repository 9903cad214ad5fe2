-- The text of a shape by columns is its lines, the further ones after blanks; and whole documents.
use Rattle.snap_emit_values.proofs.Prelude.{◌≡◌, ℕ, zero, suc, ◌+◌, List, [], ◌∷◌, ◌++◌, Bool, true, false, if◌then◌else◌, map, refl, sym, ap, ◌∙◌, append_assoc, append-nil, arith, ◌==◌, None, Some, Option, flat_map, codes}
use Rattle.snap_str.specs.Lines.{onto}
use Rattle.snap_content.specs.Lines.{ended}
use Rattle.snap_print.specs.Blocks.{Blocks, before_more, is_inside, core, kept_ends, block_sign, empty_lines}
use Rattle.snap_print.specs.Lines.{two_in, empties, text_lines, block_lines, indented, behind, marked}
use Rattle.snap_emit_values.specs.Shape as s
use Rattle.snap_emit_values.specs.Columns.{blanks, break_at, line_ends, shifted, block_text, child_text, mark_text, gap, pair_text, text_at, items_at, pairs_at, line_behind, following, lines_at}
use Rattle.snap_emit_values.specs.Document.{joined, document, dumped, ends_in_block}

-- these lines are this text at column k
record Laid (k : ℕ) (ls : List (List ℕ)) (all : List ℕ) : Type 0 where
  first : List ℕ
  rest : List (List ℕ)
  is : ls ≡ first ∷ rest
  text : all ≡ first ++ following k rest

-- the same, and the first line is not empty
record Filled (k : ℕ) (ls : List (List ℕ)) (all : List ℕ) : Type 0 where
  head : ℕ
  others : List ℕ
  rest : List (List ℕ)
  is : ls ≡ (head ∷ others) ∷ rest
  text : all ≡ (head ∷ others) ++ following k rest

laid : (k : ℕ) (ls : List (List ℕ)) (all : List ℕ) → Filled k ls all → Laid k ls all
laid k ls all f = record { first = f.head ∷ f.others; rest = f.rest; is = f.is; text = f.text }

blanks-shift : (k : ℕ) (x : List ℕ) → blanks k ++ 32 ∷ x ≡ 32 ∷ (blanks k ++ x)
blanks-shift zero x = refl
blanks-shift (suc k) x = ap (λ (t : List ℕ). 32 ∷ t) (blanks-shift k x)

two : (k : ℕ) → suc (suc k) ≡ k + 2
two k = omega arith

blanks-two : (k : ℕ) (x : List ℕ) → blanks k ++ 32 ∷ 32 ∷ x ≡ blanks (k + 2) ++ x
blanks-two k x =
    blanks-shift k (32 ∷ x) ∙ ap (λ (t : List ℕ). 32 ∷ t) (blanks-shift k x) ∙ ap (λ (n : ℕ). blanks n ++ x) (two k)

two-further : (k : ℕ) (line : List ℕ) → line_behind k (two_in line) ≡ break_at (k + 2) ++ line
two-further k line = ap (λ (t : List ℕ). 10 ∷ t) (blanks-two k line)

line-indented : (k : ℕ) (line : List ℕ) → line_behind k (indented line) ≡ line_behind (k + 2) line
line-indented k [] = refl
line-indented k (c ∷ cs) = two-further k (c ∷ cs)

following-indented : (k : ℕ) (ls : List (List ℕ)) → following k (map indented ls) ≡ following (k + 2) ls
following-indented k [] = refl
following-indented k (l ∷ ls) = rw (line-indented k l, following-indented k ls) refl

following-append : (k : ℕ) (a b : List (List ℕ)) → following k (a ++ b) ≡ following k a ++ following k b
following-append k [] b = refl
following-append k (x ∷ a) b = rw (following-append k a b) (sym (append_assoc (line_behind k x) (following k a) (following k b)))

following-empties : (k n : ℕ) → following k (empties n) ≡ line_ends n
following-empties k zero = refl
following-empties k (suc n) = ap (λ (x : List ℕ). 10 ∷ x) (following-empties k n)

-- the lines of a text
record Cut (k : ℕ) (w : List ℕ) : Type 0 where
  first : List ℕ
  rest : List (List ℕ)
  is : text_lines w ≡ first ∷ rest
  text : shifted (k + 2) w ≡ first ++ following k (map two_in rest)

cut-by : (q : Bool) (k c : ℕ) (w : List ℕ) → (c == 10) ≡ q → Cut k w → Cut k (c ∷ w)
cut-by true k c w e cut =
    let ls : List (List ℕ) → List (List ℕ) = λ x. [] ∷ x in
    let after : List ℕ → List ℕ = λ x. break_at (k + 2) ++ x in
    let front : List ℕ → List ℕ = λ x. x ++ following k (map two_in cut.rest) in
    let whole : break_at (k + 2) ++ shifted (k + 2) w ≡ following k (map two_in (cut.first ∷ cut.rest)) =
    ap after cut.text ∙ sym (append_assoc (break_at (k + 2)) cut.first (following k (map two_in cut.rest))) ∙ ap front (sym (two-further k cut.first)) in
    record { first = []; rest = cut.first ∷ cut.rest; is = rw e (ap ls cut.is); text = rw e whole }
cut-by false k c w e cut =
    let ls : List (List ℕ) → List (List ℕ) = λ x. onto c x in
    let after : List ℕ → List ℕ = λ x. c ∷ x in
    record { first = c ∷ cut.first; rest = cut.rest; is = rw e (ap ls cut.is); text = rw e (ap after cut.text) }

cut : (k : ℕ) (w : List ℕ) → Cut k w
cut k [] = record { first = []; rest = []; is = refl; text = refl }
cut k (c ∷ w) = cut-by (c == 10) k c w refl (cut k w)

block-following : (k : ℕ) (w : Blocks) (x : List ℕ)
    → following k (block_lines w x) ≡ break_at (k + 2) ++ (shifted (k + 2) (core x) ++ line_ends (empty_lines (is_inside w) (kept_ends x)))
block-following k w x =
    let c = cut k (core x) in
    let n : ℕ = empty_lines (is_inside w) (kept_ends x) in
    let rows : List (List ℕ) → List ℕ = λ y. following k (map two_in y) in
    let front : List ℕ → List ℕ = λ y. y ++ following k (map two_in c.rest) in
    let after : List ℕ → List ℕ = λ y. break_at (k + 2) ++ y in
    let behind_all : List ℕ → List ℕ = λ y. y ++ line_ends n in
    let lines : following k (map two_in (text_lines (core x))) ≡ break_at (k + 2) ++ shifted (k + 2) (core x) =
    ap rows c.is ∙ ap front (two-further k c.first) ∙ append_assoc (break_at (k + 2)) c.first (following k (map two_in c.rest)) ∙ ap after (sym c.text) in
    let last : List ℕ → List ℕ = λ y. following k (map two_in (text_lines (core x))) ++ y in
    following-append k (map two_in (text_lines (core x))) (empties n) ∙ ap last (following-empties k n) ∙ ap behind_all lines
    ∙ append_assoc (break_at (k + 2)) (shifted (k + 2) (core x)) (line_ends n)

-- after a mark
filled-behind : (k mark : ℕ) (ls : List (List ℕ)) (text : List ℕ) → Laid (k + 2) ls text → Filled k (behind mark ls) (mark_text mark text)
filled-behind k mark ls text l =
    let whole : List (List ℕ) → List (List ℕ) = λ x. behind mark x in
    let marked_by : List ℕ → List ℕ = λ x. mark ∷ 32 ∷ x in
    let after : List ℕ → List ℕ = λ x. mark ∷ 32 ∷ (l.first ++ x) in
    record {
      head = mark;
      others = 32 ∷ l.first;
      rest = map indented l.rest;
      is = ap whole l.is;
      text = ap marked_by l.text ∙ ap after (sym (following-indented k l.rest));
    }

filled-marked : (k mark : ℕ) (w : Blocks) (o : Option (List ℕ)) (ls : List (List ℕ)) (text : List ℕ) → Laid (k + 2) ls text
    → Filled k (marked w mark o ls) (mark_text mark (child_text (k + 2) w o text))
filled-marked k mark w None ls text l = filled-behind k mark ls text l
filled-marked k mark w (Some x) ls text l =
    let after : List ℕ → List ℕ = λ y. mark ∷ 32 ∷ (block_sign (kept_ends x) ++ y) in
    record { head = mark; others = 32 ∷ block_sign (kept_ends x); rest = block_lines w x; is = refl; text = ap after (sym (block-following k w x)) }

-- after a key and a colon
record IsKeyed (key tail : List ℕ) : Type 0 where
  head : ℕ
  others : List ℕ
  is : key ++ 58 ∷ tail ≡ head ∷ others

keyed-line : (key tail : List ℕ) → IsKeyed key tail
keyed-line [] tail = record { head = 58; others = tail; is = refl }
keyed-line (c ∷ cs) tail = record { head = c; others = cs ++ 58 ∷ tail; is = refl }

filled-key : (k : ℕ) (key tail : List ℕ) (rest : List (List ℕ)) (all : List ℕ) → all ≡ key ++ 58 ∷ tail ++ following k rest → Filled k ((key ++ 58 ∷ tail) ∷ rest) all
filled-key k key tail rest all is =
    let line = keyed-line key tail in
    let ls : List ℕ → List (List ℕ) = λ x. x ∷ rest in
    let front : List ℕ → List ℕ = λ x. x ++ following k rest in
    record { head = line.head; others = line.others; rest = rest; is = ap ls line.is; text = is ∙ ap front line.is }

-- a value that is not flat has a first line that is not empty
abbrev FilledBy : Bool → ℕ → List (List ℕ) → List ℕ → Type 0
FilledBy true k ls text = Unit {0}
FilledBy false k ls text = Filled k ls text

abbrev SpelledBy : Bool → List ℕ → List ℕ → Type 0
SpelledBy true spelled text = text ≡ spelled
SpelledBy false spelled text = Unit {0}

flat-keyed : (b : Bool) (k : ℕ) (key spelled : List ℕ) (ls : List (List ℕ)) (text : List ℕ) → SpelledBy b spelled text → FilledBy b (k + 2) ls text
    → Filled k (if b then (key ++ 58 ∷ 32 ∷ spelled) ∷ [] else (key ++ 58 ∷ []) ∷ map indented ls) (key ++ 58 ∷ gap (k + 2) b ++ text)
flat-keyed true k key spelled ls text same full =
    let e : key ++ 58 ∷ 32 ∷ [] ++ text ≡ key ++ 58 ∷ 32 ∷ spelled ++ [] =
    append_assoc key (58 ∷ 32 ∷ []) text ∙ ap (λ (x : List ℕ). key ++ 58 ∷ 32 ∷ x) same ∙ sym (append-nil (key ++ 58 ∷ 32 ∷ spelled)) in
    filled-key k key (32 ∷ spelled) [] (key ++ 58 ∷ 32 ∷ [] ++ text) e
flat-keyed false k key spelled ls text same full =
    let n : ℕ = k + 2 in
    let rows : List (List ℕ) → List ℕ = λ x. following n x in
    let first : List ℕ = full.head ∷ full.others in
    let after : List ℕ → List ℕ = λ x. break_at n ++ x in
    let down : following k (map indented ls) ≡ break_at n ++ text =
    following-indented k ls ∙ ap rows full.is ∙ append_assoc (break_at n) first (following n full.rest) ∙ ap after (sym full.text) in
    let key_end : List ℕ → List ℕ = λ x. key ++ 58 ∷ [] ++ x in
    let e : key ++ 58 ∷ break_at n ++ text ≡ key ++ 58 ∷ [] ++ following k (map indented ls) =
    append_assoc key (58 ∷ break_at n) text ∙ sym (append_assoc key (58 ∷ []) (break_at n ++ text)) ∙ ap key_end (sym down) in
    filled-key k key [] (map indented ls) (key ++ 58 ∷ break_at n ++ text) e

block-keyed : (k : ℕ) (w : Blocks) (key x : List ℕ) → Filled k ((key ++ 58 ∷ 32 ∷ block_sign (kept_ends x)) ∷ block_lines w x) (key ++ 58 ∷ 32 ∷ [] ++ block_text (k + 2) w x)
block-keyed k w key x =
    let sign : List ℕ = block_sign (kept_ends x) in
    let all : List ℕ = following k (block_lines w x) in
    let after : List ℕ → List ℕ = λ y. key ++ 58 ∷ 32 ∷ (sign ++ y) in
    let e : key ++ 58 ∷ 32 ∷ [] ++ block_text (k + 2) w x ≡ key ++ 58 ∷ 32 ∷ sign ++ all =
    append_assoc key (58 ∷ 32 ∷ []) (block_text (k + 2) w x) ∙ ap after (sym (block-following k w x)) ∙ sym (append_assoc key (58 ∷ 32 ∷ sign) all) in
    filled-key k key (32 ∷ sign) (block_lines w x) (key ++ 58 ∷ 32 ∷ [] ++ block_text (k + 2) w x) e

-- a block is flat: its sign stands after the colon
block-flat : (w : Blocks) (v : s.Shape) (x : List ℕ) → s.block_in w v ≡ Some x → s.is_flat v ≡ true
block-flat w (s.scalar y) x e = refl
block-flat w (s.number z) x e = refl
block-flat w (s.text y) x e = refl
block-flat w (s.list ts) x e = absurd (cc)
block-flat w (s.dict ps) x e = absurd (cc)

filled-keyed : (k : ℕ) (w : Blocks) (key : List ℕ) (v : s.Shape) (o : Option (List ℕ)) (ls : List (List ℕ)) (text : List ℕ) → s.block_in w v ≡ o
    → SpelledBy (s.is_flat v) (s.spelled v) text → FilledBy (s.is_flat v) (k + 2) ls text
    → Filled k (s.keyed w key v o ls) (key ++ 58 ∷ gap (k + 2) (s.is_flat v) ++ child_text (k + 2) w o text)
filled-keyed k w key v None ls text of same full = flat-keyed (s.is_flat v) k key (s.spelled v) ls text same full
filled-keyed k w key v (Some x) ls text of same full =
    let flat : s.is_flat v ≡ true = block-flat w v x of in
    rw flat (block-keyed k w key x)

filled-append : (k : ℕ) (xs ys : List (List ℕ)) (a b : List ℕ) → Filled k xs a → following k ys ≡ b → Filled k (xs ++ ys) (a ++ b)
filled-append k xs ys a b one two =
    let front : List ℕ → List ℕ = λ x. x ++ b in
    let ls : List (List ℕ) → List (List ℕ) = λ x. x ++ ys in
    let line : List ℕ = one.head ∷ one.others in
    let after : List ℕ → List ℕ = λ x. line ++ x in
    let tail : List ℕ → List ℕ = λ x. line ++ (following k one.rest ++ x) in
    record {
      head = one.head;
      others = one.others;
      rest = one.rest ++ ys;
      is = ap ls one.is;
      text = ap front one.text ∙ append_assoc line (following k one.rest) b ∙ ap tail (sym two) ∙ ap after (sym (following-append k one.rest ys));
    }

-- lines that follow
following-filled : (k : ℕ) (xs ys : List (List ℕ)) (a b : List ℕ) → Filled k xs a → following k ys ≡ b → following k (xs ++ ys) ≡ break_at k ++ a ++ b
following-filled k xs ys a b one two =
    let rows : List (List ℕ) → List ℕ = λ x. following k x in
    let front : List ℕ → List ℕ = λ x. x ++ following k ys in
    let line : List ℕ = one.head ∷ one.others in
    let after : List ℕ → List ℕ = λ x. break_at k ++ x ++ following k ys in
    let last : List ℕ → List ℕ = λ x. break_at k ++ a ++ x in
    following-append k xs ys ∙ ap front (ap rows one.is ∙ append_assoc (break_at k) line (following k one.rest)) ∙ ap after (sym one.text) ∙ ap last two

pair-filled-by : (b : Bool) (k : ℕ) (w : Blocks) (key v : s.Shape) (ks vs : List (List ℕ)) (kt vt : List ℕ) → Laid (k + 2) ks kt → Laid (k + 2) vs vt
    → SpelledBy (s.is_flat v) (s.spelled v) vt → FilledBy (s.is_flat v) (k + 2) vs vt
    → Filled k (if b then s.keyed w (s.spelled key) v (s.block_in w v) vs else behind 63 ks ++ marked w 58 (s.block_in w v) vs)
    ((if b then s.spelled key ++ 58 ∷ gap (k + 2) (s.is_flat v) else mark_text 63 kt ++ (break_at k ++ 58 ∷ 32 ∷ [])) ++ child_text (k + 2) w (s.block_in w v) vt)
pair-filled-by true k w key v ks vs kt vt kl vl same full = filled-keyed k w (s.spelled key) v (s.block_in w v) vs vt refl same full
pair-filled-by false k w key v ks vs kt vt kl vl same full =
    let value : List ℕ = child_text (k + 2) w (s.block_in w v) vt in
    let one = filled-behind k 63 ks kt kl in
    let other = filled-marked k 58 w (s.block_in w v) vs vt vl in
    let rows : List (List ℕ) → List ℕ = λ x. following k x in
    let after : List ℕ → List ℕ = λ x. break_at k ++ x in
    let two : following k (marked w 58 (s.block_in w v) vs) ≡ break_at k ++ mark_text 58 value =
    ap rows other.is ∙ append_assoc (break_at k) (other.head ∷ other.others) (following k other.rest) ∙ ap after (sym other.text) in
    let both = filled-append k (behind 63 ks) (marked w 58 (s.block_in w v) vs) (mark_text 63 kt) (break_at k ++ mark_text 58 value) one two in
    let glue : mark_text 63 kt ++ (break_at k ++ 58 ∷ 32 ∷ []) ++ value ≡ mark_text 63 kt ++ (break_at k ++ mark_text 58 value) =
    append_assoc (mark_text 63 kt) (break_at k ++ 58 ∷ 32 ∷ []) value ∙ ap (λ (x : List ℕ). mark_text 63 kt ++ x) (append_assoc (break_at k) (58 ∷ 32 ∷ []) value) in
    record { head = both.head; others = both.others; rest = both.rest; is = both.is; text = glue ∙ both.text }

pair-filled : (k : ℕ) (w : Blocks) (key v : s.Shape) (ks vs : List (List ℕ)) (kt vt : List ℕ) → Laid (k + 2) ks kt → Laid (k + 2) vs vt
    → SpelledBy (s.is_flat v) (s.spelled v) vt → FilledBy (s.is_flat v) (k + 2) vs vt → Filled k (s.pair_block w key v ks vs) (pair_text k w key v kt vt)
pair-filled k w key v ks vs kt vt kl vl same full = pair-filled-by (s.is_simple key) k w key v ks vs kt vt kl vl same full

laid-line : (k : ℕ) (line : List ℕ) → Laid k (line ∷ []) line
laid-line k line = record { first = line; rest = []; is = refl; text = sym (append-nil line) }

flat-text : (v : s.Shape) (k : ℕ) (w : Blocks) → SpelledBy (s.is_flat v) (s.spelled v) (text_at k w v)
flat-text (s.scalar x) k w = refl
flat-text (s.number z) k w = refl
flat-text (s.text x) k w = refl
flat-text (s.list s.no_shapes) k w = refl
flat-text (s.list (s.shape t ts)) k w = tt
flat-text (s.dict s.no_pairs) k w = refl
flat-text (s.dict (s.pair q v ps)) k w = tt

-- what is shown of a shape: its lines are its text, and where it is not flat the first of them is not empty
record IsLaid (k : ℕ) (w : Blocks) (t : s.Shape) : Type 0 where
  laid : Laid k (s.lines w t) (text_at k w t)
  filled : FilledBy (s.is_flat t) k (s.lines w t) (text_at k w t)

one-line : (k : ℕ) (w : Blocks) (t : s.Shape) → s.is_flat t ≡ true → s.lines w t ≡ text_at k w t ∷ [] → IsLaid k w t
one-line k w t flat is = record { laid = rw is (laid-line k (text_at k w t)); filled = rw flat tt }

mutual
  shape-laid : (t : s.Shape) (k : ℕ) (w : Blocks) → IsLaid k w t
  shape-laid (s.scalar x) k w = record { laid = laid-line k x; filled = tt }
  shape-laid (s.number z) k w = record { laid = laid-line k _; filled = tt }
  shape-laid (s.text x) k w = record { laid = laid-line k _; filled = tt }
  shape-laid (s.list s.no_shapes) k w = record { laid = laid-line k (codes "[]"); filled = tt }
  shape-laid (s.list (s.shape t ts)) k w =
      let u : Blocks = s.before_shapes w ts in
      let whole = filled-append k (marked u 45 (s.block_in u t) (s.lines u t)) (s.list_lines w ts) (mark_text 45 (child_text (k + 2) u (s.block_in u t) (text_at (k + 2) u t))) (items_at k w ts)
      (filled-marked k 45 u (s.block_in u t) (s.lines u t) (text_at (k + 2) u t) (shape-laid t (k + 2) u).laid) (items-laid ts k w) in
      record { laid = laid k _ _ whole; filled = whole }
  shape-laid (s.dict s.no_pairs) k w = record { laid = laid-line k (codes "{}"); filled = tt }
  shape-laid (s.dict (s.pair q v ps)) k w =
      let u : Blocks = s.before_pairs w ps in
      let value = shape-laid v (k + 2) u in
      let one = pair-filled k u q v (s.lines (before_more w) q) (s.lines u v) (text_at (k + 2) (before_more w) q) (text_at (k + 2) u v)
      (shape-laid q (k + 2) (before_more w)).laid value.laid (flat-text v (k + 2) u) value.filled in
      let whole = filled-append k (s.pair_block u q v (s.lines (before_more w) q) (s.lines u v)) (s.dict_lines w ps)
      (pair_text k u q v (text_at (k + 2) (before_more w) q) (text_at (k + 2) u v)) (pairs_at k w ps) one (pairs-laid ps k w) in
      record { laid = laid k _ _ whole; filled = whole }

  items-laid : (ts : s.Shapes) (k : ℕ) (w : Blocks) → following k (s.list_lines w ts) ≡ items_at k w ts
  items-laid s.no_shapes k w = refl
  items-laid (s.shape t ts) k w =
      let u : Blocks = s.before_shapes w ts in
      following-filled k (marked u 45 (s.block_in u t) (s.lines u t)) (s.list_lines w ts) (mark_text 45 (child_text (k + 2) u (s.block_in u t) (text_at (k + 2) u t))) (items_at k w ts)
      (filled-marked k 45 u (s.block_in u t) (s.lines u t) (text_at (k + 2) u t) (shape-laid t (k + 2) u).laid) (items-laid ts k w)

  pairs-laid : (ps : s.ShapePairs) (k : ℕ) (w : Blocks) → following k (s.dict_lines w ps) ≡ pairs_at k w ps
  pairs-laid s.no_pairs k w = refl
  pairs-laid (s.pair q v ps) k w =
      let u : Blocks = s.before_pairs w ps in
      let value = shape-laid v (k + 2) u in
      following-filled k (s.pair_block u q v (s.lines (before_more w) q) (s.lines u v)) (s.dict_lines w ps)
      (pair_text k u q v (text_at (k + 2) (before_more w) q) (text_at (k + 2) u v)) (pairs_at k w ps)
      (pair-filled k u q v (s.lines (before_more w) q) (s.lines u v) (text_at (k + 2) (before_more w) q) (text_at (k + 2) u v)
      (shape-laid q (k + 2) (before_more w)).laid value.laid (flat-text v (k + 2) u) value.filled)
      (pairs-laid ps k w)

pub at-a-column : (k : ℕ) (w : Blocks) (t : s.Shape) → text_at k w t ≡ lines_at k (s.lines w t)
at-a-column k w t =
    let l = (shape-laid t k w).laid in
    let at : List (List ℕ) → List ℕ = λ x. lines_at k x in
    l.text ∙ sym (ap at l.is)

line-ended : (line rest : List ℕ) → line_behind 0 line ++ rest ≡ 10 ∷ (line ++ rest)
line-ended [] rest = refl
line-ended (c ∷ cs) rest = refl

ended-following : (ls : List (List ℕ)) → following 0 ls ++ 10 ∷ [] ≡ 10 ∷ flat_map ended ls
ended-following [] = refl
ended-following (line ∷ ls) =
    let after : List ℕ → List ℕ = λ x. line_behind 0 line ++ x in
    let tail : List ℕ → List ℕ = λ x. 10 ∷ x in
    append_assoc (line_behind 0 line) (following 0 ls) (10 ∷ []) ∙ ap after (ended-following ls) ∙ line-ended line (10 ∷ flat_map ended ls)
    ∙ ap tail (sym (append_assoc line (10 ∷ []) (flat_map ended ls)))

pub whole-text : (w : Blocks) (t : s.Shape) → text_at 0 w t ++ 10 ∷ [] ≡ flat_map ended (s.lines w t)
whole-text w t =
    let l = (shape-laid t 0 w).laid in
    let front : List ℕ → List ℕ = λ x. x ++ 10 ∷ [] in
    let after : List ℕ → List ℕ = λ x. l.first ++ x in
    let all : List (List ℕ) → List ℕ = λ x. flat_map ended x in
    ap front l.text ∙ append_assoc l.first (following 0 l.rest) (10 ∷ []) ∙ ap after (ended-following l.rest) ∙ sym (append_assoc l.first (10 ∷ []) (flat_map ended l.rest)) ∙ sym (ap all l.is)

lines_at-joined : (ls : List (List ℕ)) → lines_at 0 ls ≡ joined ls
lines_at-joined [] = refl
lines_at-joined (first ∷ rest) = ap (λ (x : List ℕ). first ++ x) (by rest)
  where
    one : (line more : List ℕ) → line_behind 0 line ++ more ≡ (10 ∷ line) ++ more
    one [] more = refl
    one (c ∷ cs) more = refl

    by : (rest : List (List ℕ)) → following 0 rest ≡ flat_map (λ line. 10 ∷ line) rest
    by [] = refl
    by (line ∷ rest) = one line (following 0 rest) ∙ ap (λ (x : List ℕ). (10 ∷ line) ++ x) (by rest)

-- the text at column 0 is the lines, joined
pub text-joined : (w : Blocks) (t : s.Shape) → text_at 0 w t ≡ joined (s.lines w t)
text-joined w t = at-a-column 0 w t ∙ lines_at-joined (s.lines w t)

-- what an emitter adds for a value, from its text and what the code was told of its end
pub dumped-text : (w : Blocks) (t : s.Shape) (b : Bool) → b ≡ ends_in_block w t
    → codes "---\n" ++ (text_at 0 w t ++ (if b then 10 ∷ [] else [])) ≡ dumped w t
dumped-text w t b is =
    ap (λ (x : List ℕ). codes "---\n" ++ (x ++ (if b then 10 ∷ [] else []))) (text-joined w t)
    ∙ ap (λ (q : Bool). codes "---\n" ++ (joined (s.lines w t) ++ (if q then 10 ∷ [] else []))) is

-- with a line's end after it, each line has its end
ended-text : (w : Blocks) (t : s.Shape) → joined (s.lines w t) ++ 10 ∷ [] ≡ flat_map ended (s.lines w t)
ended-text w t = ap (λ (x : List ℕ). x ++ 10 ∷ []) (sym (text-joined w t)) ∙ whole-text w t

-- a dump is a document, but for its last line's end where that line is none of a block
pub dumped-open : (w : Blocks) (t : s.Shape) → ends_in_block w t ≡ false → dumped w t ++ 10 ∷ [] ≡ document w t
dumped-open w t h =
    ap (λ (b : Bool). (codes "---\n" ++ joined (s.lines w t) ++ (if b then 10 ∷ [] else [])) ++ 10 ∷ []) h
    ∙ ap (λ (x : List ℕ). (codes "---\n" ++ x) ++ 10 ∷ []) (append-nil (joined (s.lines w t)))
    ∙ ap (λ (x : List ℕ). codes "---\n" ++ x) (ended-text w t)

pub dumped-whole : (w : Blocks) (t : s.Shape) → ends_in_block w t ≡ true → dumped w t ≡ document w t
dumped-whole w t h =
    ap (λ (b : Bool). codes "---\n" ++ joined (s.lines w t) ++ (if b then 10 ∷ [] else [])) h ∙ ap (λ (x : List ℕ). codes "---\n" ++ x) (ended-text w t)
