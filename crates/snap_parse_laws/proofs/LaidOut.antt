-- The text by columns is the text by lines and prefixes.
use Rattle.snap_parse_laws.proofs.Prelude.{◌≡◌, ℕ, zero, suc, ◌+◌, List, [], ◌∷◌, ◌++◌, Bool, true, false, map, refl, ap, ◌∙◌, arith, sym, append_assoc, ◌==◌, flat_map, key_block, lines_of, item_lines, entry_block, entry_lines, text_of, Form, Forms, Entry, Entries, Scalar, bare, quote, scalar, block, hollow, list, dict, last, item, simple, complex, only, pair, spelled, is_scalar, is_key, and_parts, nat_le, length, IsPrintable, ArePrintable, IsEntry, AreEntries, IsNode, open_sign, close_sign, blanks, shifted, line_ends, block_sign, empty_lines, block_at, text_at, inside, entry_at, entries_at, value_block}
use Rattle.snap_content.specs.Lines.{ended}
use Rattle.snap_str.specs.Lines.{onto}
use Rattle.snap_print.specs.Lines.{indented, behind, two_in, empties, text_lines, below_sign}
use Rattle.snap_parse_laws.specs.FormLines.{mark_block}

-- a line at column k: an empty one has no blanks
abbrev line_at : ℕ → List ℕ → List ℕ
line_at k [] = 10 ∷ []
line_at k (c ∷ cs) = blanks k ++ ended (c ∷ cs)

-- lines at column k
abbrev below : ℕ → List (List ℕ) → List ℕ
below k [] = []
below k (line ∷ rest) = line_at k line ++ below k rest

-- these lines are this text, of which the first line, which is not empty, stands at column k
record Laid (k : ℕ) (lines : List (List ℕ)) (all : List ℕ) : Type 0 where
  first : ℕ
  others : List ℕ
  rest : List (List ℕ)
  is : lines ≡ (first ∷ others) ∷ rest
  text : all ≡ ended (first ∷ others) ++ below k rest

blanks-two : (k : ℕ) → blanks (k + 1 + 1) ≡ blanks k ++ 32 ∷ 32 ∷ []
blanks-two zero = refl
blanks-two (suc k) =
    let e : suc k + 1 + 1 ≡ suc (k + 1 + 1) = omega arith in
    let f : List ℕ → List ℕ = λ x. 32 ∷ x in
    rw e (ap f (blanks-two k))

two-further : (k : ℕ) (line : List ℕ) → line_at k (two_in line) ≡ blanks (k + 1 + 1) ++ ended line
two-further k line = rw (blanks-two k) (sym (append_assoc (blanks k) (32 ∷ 32 ∷ []) (ended line)))

line-indented : (k : ℕ) (line : List ℕ) → line_at k (indented line) ≡ line_at (k + 1 + 1) line
line-indented k [] = refl
line-indented k (c ∷ cs) = two-further k (c ∷ cs)

below-indented : (k : ℕ) (lines : List (List ℕ)) → below k (map indented lines) ≡ below (k + 1 + 1) lines
below-indented k [] = refl
below-indented k (line ∷ rest) = rw (line-indented k line, below-indented k rest) refl

below-append : (k : ℕ) (xs ys : List (List ℕ)) → below k (xs ++ ys) ≡ below k xs ++ below k ys
below-append k [] ys = refl
below-append k (x ∷ xs) ys = rw (below-append k xs ys) (sym (append_assoc (line_at k x) (below k xs) (below k ys)))

below-empties : (k n : ℕ) → below k (empties n) ≡ line_ends n
below-empties k zero = refl
below-empties k (suc n) = let f : List ℕ → List ℕ = λ x. 10 ∷ x in ap f (below-empties k n)

-- the lines of a text, of which the first stands where it does
record Cut (k : ℕ) (w : List ℕ) : Type 0 where
  first : List ℕ
  rest : List (List ℕ)
  is : text_lines w ≡ first ∷ rest
  text : shifted (k + 1 + 1) w ++ 10 ∷ [] ≡ ended first ++ below k (map two_in rest)

cut-by : (q : Bool) (k c : ℕ) (w : List ℕ) → (c == 10) ≡ q → Cut k w → Cut k (c ∷ w)
cut-by true k c w e cut =
    let after : List ℕ → List ℕ = λ x. 10 ∷ (blanks (k + 1 + 1) ++ x) in
    let lines : List (List ℕ) → List (List ℕ) = λ x. [] ∷ x in
    let down : below k (map two_in (cut.first ∷ cut.rest)) ≡ blanks (k + 1 + 1) ++ (ended cut.first ++ below k (map two_in cut.rest)) =
    rw (two-further k cut.first) (append_assoc (blanks (k + 1 + 1)) (ended cut.first) (below k (map two_in cut.rest))) in
    let whole : 10 ∷ (blanks (k + 1 + 1) ++ shifted (k + 1 + 1) w ++ 10 ∷ []) ≡ 10 ∷ below k (map two_in (cut.first ∷ cut.rest)) =
    ap (λ (x : List ℕ). 10 ∷ x) (append_assoc (blanks (k + 1 + 1)) (shifted (k + 1 + 1) w) (10 ∷ [])) ∙ ap after cut.text ∙ sym (ap (λ (x : List ℕ). 10 ∷ x) down) in
    record { first = []; rest = cut.first ∷ cut.rest; is = rw e (ap lines cut.is); text = rw e whole }
cut-by false k c w e cut =
    let lines : List (List ℕ) → List (List ℕ) = λ x. onto c x in
    let after : List ℕ → List ℕ = λ x. c ∷ x in
    record { first = c ∷ cut.first; rest = cut.rest; is = rw e (ap lines cut.is); text = rw e (ap after cut.text) }

cut : (k : ℕ) (w : List ℕ) → Cut k w
cut k [] = record { first = []; rest = []; is = refl; text = refl }
cut k (c ∷ w) = cut-by (c == 10) k c w refl (cut k w)

below-block : (k : ℕ) (w : List ℕ) (count : ℕ) (more : Bool)
    → below k (below_sign w count more) ≡ blanks (k + 1 + 1) ++ (shifted (k + 1 + 1) w ++ (10 ∷ line_ends (empty_lines more count)))
below-block k w count more =
    let c = cut k w in
    let n : ℕ = empty_lines more count in
    let rows : List (List ℕ) → List ℕ = λ x. below k (map two_in x) in
    let after : List ℕ → List ℕ = λ x. blanks (k + 1 + 1) ++ x in
    let lines : below k (map two_in (text_lines w)) ≡ blanks (k + 1 + 1) ++ (shifted (k + 1 + 1) w ++ 10 ∷ []) =
    ap rows c.is ∙ rw (two-further k c.first) (append_assoc (blanks (k + 1 + 1)) (ended c.first) (below k (map two_in c.rest))) ∙ ap after (sym c.text) in
    below-append k (map two_in (text_lines w)) (empties n) ∙ rw (lines, below-empties k n) (simp append_assoc)

laid-one : (k first : ℕ) (others : List ℕ) → Laid k ((first ∷ others) ∷ []) (first ∷ others ++ 10 ∷ [])
laid-one k first others = record { first = first; others = others; rest = []; is = refl; text = simp append_assoc }

laid-behind : (k mark : ℕ) (lines : List (List ℕ)) (text : List ℕ) → Laid (k + 1 + 1) lines text → Laid k (behind mark lines) (mark ∷ 32 ∷ text)
laid-behind k mark lines text laid =
    let marked : List ℕ → List ℕ = λ x. mark ∷ 32 ∷ x in
    let whole : List (List ℕ) → List (List ℕ) = λ x. behind mark x in
    record {
      first = mark;
      others = 32 ∷ laid.first ∷ laid.others;
      rest = map indented laid.rest;
      is = ap whole laid.is;
      text = ap marked laid.text ∙ rw (below-indented k laid.rest) refl;
    }

-- a piece after another, and the end of its line
line-glued : (a b x : List ℕ) → a ++ (b ++ (10 ∷ x)) ≡ a ++ b ++ 10 ∷ [] ++ x
line-glued a b x = sym (append_assoc (a ++ b) (10 ∷ []) x ∙ append_assoc a b (10 ∷ x))

laid-block : (k first : ℕ) (others w : List ℕ) (count : ℕ) (more : Bool) → Laid k ((first ∷ (others ++ block_sign count)) ∷ below_sign w count more) (first ∷ (others ++ block_at (k + 1 + 1) w count more))
laid-block k first others w count more =
    let behind_sign : List ℕ = blanks (k + 1 + 1) ++ (shifted (k + 1 + 1) w ++ (10 ∷ line_ends (empty_lines more count))) in
    let front : List ℕ → List ℕ = λ x. first ∷ x in
    let after : List ℕ → List ℕ = λ x. ended (first ∷ (others ++ block_sign count)) ++ x in
    record {
      first = first;
      others = others ++ block_sign count;
      rest = below_sign w count more;
      is = refl;
      text = ap front (line-glued others (block_sign count) behind_sign) ∙ ap after (sym (below-block k w count more));
    }

laid-append : (k : ℕ) (xs ys : List (List ℕ)) (a b : List ℕ) → Laid k xs a → Laid k ys b → Laid k (xs ++ ys) (a ++ (blanks k ++ b))
laid-append k xs ys a b one two =
    let e1 : List ℕ = ended (one.first ∷ one.others) in
    let b1 : List ℕ = below k one.rest in
    let e2 : List ℕ = ended (two.first ∷ two.others) in
    let b2 : List ℕ = below k two.rest in
    let first : List ℕ → List ℕ = λ x. x ++ (blanks k ++ b) in
    let second : List ℕ → List ℕ = λ x. e1 ++ b1 ++ (blanks k ++ x) in
    let inner : List ℕ → List ℕ = λ x. e1 ++ (b1 ++ x) in
    let after : List ℕ → List ℕ = λ x. e1 ++ x in
    record {
      first = one.first;
      others = one.others;
      rest = one.rest ++ ((two.first ∷ two.others) ∷ two.rest);
      is = rw (one.is, two.is) refl;
      text =
          ap first one.text ∙ ap second two.text ∙ append_assoc e1 b1 (blanks k ++ (e2 ++ b2)) ∙ ap inner (sym (append_assoc (blanks k) e2 b2))
          ∙ ap after (sym (below-append k one.rest ((two.first ∷ two.others) ∷ two.rest)));
    }

-- a key, or a mark, is no empty text
record IsFilled (key : List ℕ) : Type 0 where
  first : ℕ
  others : List ℕ
  is : key ≡ first ∷ others

filled : (s : Scalar) → is_scalar s ≡ true → IsFilled (spelled s)
filled (bare []) h = absurd (cc)
filled (bare (c ∷ w)) h = record { first = c; others = w; is = refl }
filled (quote s) h = record { first = 34; others = _; is = refl }

filled-key : (s : Scalar) → is_key s ≡ true → IsFilled (spelled s)
filled-key s h = filled s (and_parts (is_scalar s) (nat_le (length (spelled s)) 1024) h).0

laid-key : (k : ℕ) (key : List ℕ) → IsFilled key → (lines : List (List ℕ)) (text : List ℕ) → Laid (k + 1 + 1) lines text
    → Laid k ((key ++ 58 ∷ []) ∷ map indented lines) (key ++ (58 ∷ 10 ∷ (blanks (k + 1 + 1) ++ text)))
laid-key k key some lines text laid =
    let below_lines : List (List ℕ) → List ℕ = λ x. below (k + 1 + 1) x in
    let e : below k (map indented lines) ≡ blanks (k + 1 + 1) ++ text =
    below-indented k lines ∙ ap below_lines laid.is ∙ rw laid.text (append_assoc (blanks (k + 1 + 1)) (ended (laid.first ∷ laid.others)) (below (k + 1 + 1) laid.rest)) in
    let y : List ℕ = blanks (k + 1 + 1) ++ text in
    let filled_key : List ℕ = some.first ∷ some.others in
    let front : List ℕ → List ℕ = λ x. x ++ (58 ∷ 10 ∷ y) in
    let after : List ℕ → List ℕ = λ x. ended (filled_key ++ 58 ∷ []) ++ x in
    record {
      first = some.first;
      others = some.others ++ 58 ∷ [];
      rest = map indented lines;
      is = rw some.is refl;
      text = ap front some.is ∙ line-glued filled_key (58 ∷ []) y ∙ ap after (sym e);
    }

laid-flat : (k : ℕ) (key line : List ℕ) → IsFilled key → Laid k ((key ++ 58 ∷ 32 ∷ line) ∷ []) (key ++ (58 ∷ 32 ∷ (line ++ 10 ∷ [])))
laid-flat k key line some = record { first = some.first; others = some.others ++ 58 ∷ 32 ∷ line; rest = []; is = rw some.is refl; text = rw some.is (simp append_assoc) }

laid-block-key : (k : ℕ) (key w : List ℕ) (count : ℕ) (more : Bool) → IsFilled key
    → Laid k ((key ++ 58 ∷ 32 ∷ block_sign count) ∷ below_sign w count more) (key ++ (58 ∷ 32 ∷ block_at (k + 1 + 1) w count more))
laid-block-key k key w count more some =
    let behind_sign : List ℕ = blanks (k + 1 + 1) ++ (shifted (k + 1 + 1) w ++ (10 ∷ line_ends (empty_lines more count))) in
    let filled_key : List ℕ = some.first ∷ some.others in
    let front : List ℕ → List ℕ = λ x. x ++ (58 ∷ 32 ∷ block_at (k + 1 + 1) w count more) in
    let after : List ℕ → List ℕ = λ x. ended (filled_key ++ 58 ∷ 32 ∷ block_sign count) ++ x in
    record {
      first = some.first;
      others = some.others ++ 58 ∷ 32 ∷ block_sign count;
      rest = below_sign w count more;
      is = rw some.is refl;
      text = ap front some.is ∙ line-glued filled_key (58 ∷ 32 ∷ block_sign count) behind_sign ∙ ap after (sym (below-block k w count more));
    }

laid-scalar : (s : Scalar) (k : ℕ) → IsFilled (spelled s) → Laid k (spelled s ∷ []) (spelled s ++ 10 ∷ [])
laid-scalar s k some = rw some.is (laid-one k some.first some.others)

abbrev LaidNode : Form → Type 0
LaidNode t = IsNode t → (k : ℕ) → Laid k (lines_of t) (text_at k t)

laid-mark : (k mark : ℕ) (t : Form) → LaidNode t → Laid k (mark_block mark t (lines_of t)) (mark ∷ 32 ∷ text_at (k + 1 + 1) t)
laid-mark k mark (scalar s) by = laid-behind k mark (lines_of (scalar s)) (text_at (k + 1 + 1) (scalar s)) (by tt (k + 1 + 1))
laid-mark k mark (block w count more) by = laid-block k mark (32 ∷ []) w count more
laid-mark k mark (hollow q) by = laid-behind k mark (lines_of (hollow q)) (text_at (k + 1 + 1) (hollow q)) (by tt (k + 1 + 1))
laid-mark k mark (list ts) by = laid-behind k mark (lines_of (list ts)) (text_at (k + 1 + 1) (list ts)) (by tt (k + 1 + 1))
laid-mark k mark (dict es) by = laid-behind k mark (lines_of (dict es)) (text_at (k + 1 + 1) (dict es)) (by tt (k + 1 + 1))

laid-node : (k mark : ℕ) (t : Form) → IsNode t → LaidNode t → Laid k (behind mark (lines_of t)) (mark ∷ 32 ∷ text_at (k + 1 + 1) t)
laid-node k mark t node by = laid-behind k mark (lines_of t) (text_at (k + 1 + 1) t) (by node (k + 1 + 1))

laid-value : (k : ℕ) (key : List ℕ) → IsFilled key → (t : Form) → LaidNode t → Laid k (key_block key t (lines_of t)) (key ++ (58 ∷ value_block k t (text_at (k + 1 + 1) t)))
laid-value k key some (scalar s) by = laid-flat k key (spelled s) some
laid-value k key some (block w count more) by = laid-block-key k key w count more some
laid-value k key some (hollow q) by = laid-flat k key (open_sign q ∷ close_sign q ∷ []) some
laid-value k key some (list ts) by = laid-key k key some (lines_of (list ts)) (text_at (k + 1 + 1) (list ts)) (by tt (k + 1 + 1))
laid-value k key some (dict es) by = laid-key k key some (lines_of (dict es)) (text_at (k + 1 + 1) (dict es)) (by tt (k + 1 + 1))

mutual
  laid : (t : Form) → IsPrintable t → LaidNode t
  laid (scalar s) is node k = laid-scalar s k (filled s is)
  laid (block w count more) is node k = absurd node
  laid (hollow q) is node k = laid-one k (open_sign q) (close_sign q ∷ [])
  laid (list ts) is node k = laid-items ts is k
  laid (dict es) is node k = laid-entries es is k

  laid-items : (ts : Forms) → ArePrintable ts → (k : ℕ) → Laid k (item_lines ts) (45 ∷ 32 ∷ inside k ts)
  laid-items (last t) is k = laid-mark k 45 t (laid t is)
  laid-items (item t ts) is k =
      laid-append k (mark_block 45 t (lines_of t)) (item_lines ts) (45 ∷ 32 ∷ text_at (k + 1 + 1) t) (45 ∷ 32 ∷ inside k ts) (laid-mark k 45 t (laid t is.0)) (laid-items ts is.1 k)

  laid-entry : (e : Entry) → IsEntry e → (k : ℕ) → Laid k (entry_block e) (entry_at k e)
  laid-entry (simple s t) is k = laid-value k (spelled s) (filled-key s is.0) t (laid t is.1)
  laid-entry (complex q t) is k =
      laid-append k (behind 63 (lines_of q)) (mark_block 58 t (lines_of t)) (63 ∷ 32 ∷ text_at (k + 1 + 1) q) (58 ∷ 32 ∷ text_at (k + 1 + 1) t)
      (laid-node k 63 q is.2 (laid q is.0)) (laid-mark k 58 t (laid t is.1))

  laid-entries : (es : Entries) → AreEntries es → (k : ℕ) → Laid k (entry_lines es) (entries_at k es)
  laid-entries (only e) is k = laid-entry e is k
  laid-entries (pair e es) is k = laid-append k (entry_block e) (entry_lines es) (entry_at k e) (entries_at k es) (laid-entry e is.0 k) (laid-entries es is.1 k)

ended-line : (line : List ℕ) → ended line ≡ line_at 0 line
ended-line [] = refl
ended-line (c ∷ cs) = refl

ended-below : (lines : List (List ℕ)) → flat_map ended lines ≡ below 0 lines
ended-below [] = refl
ended-below (line ∷ rest) = rw (ended-line line, ended-below rest) refl

pub lines-text : (t : Form) → IsNode t → IsPrintable t → text_of t ≡ text_at 0 t
lines-text t node is =
    let whole = laid t is node 0 in
    let join : List (List ℕ) → List ℕ = λ x. flat_map ended x in
    let after : List ℕ → List ℕ = λ x. ended (whole.first ∷ whole.others) ++ x in
    ap join whole.is ∙ ap after (ended-below whole.rest) ∙ sym whole.text
