-- A layout is fetched as its tokens.
use Rattle.snap_parse_laws.proofs.Prelude.{◌≡◌, ℕ, ◌+◌, List, [], ◌∷◌, ◌++◌, true, false, refl, ap, ◌∙◌, arith, append-nil, append_assoc, ◌≤◌, Some, None, Option, map, nat_lt, length, subst, inl, inr, nat_tests, map-append, ◌==◌, slice_index, nat_le, is_blank_or_end, Place, mark_of, Token, TokenType, TokenKind, State, kept, ends, is_deeper, is_right_of, at, kind_step, kind_of, left_by, fetched, blanks, shifted, line_ends, empty_lines, Steps, none_more, one_more, type_of, here, calm, Settles, closing, is_start, is_tail, and_parts, and_nothing}
use Rattle.snap_scan_tokens.specs.declared.token.TokenType.TheVariants as k
use Rattle.snap_scan.specs.declared.kind.TokenKind.TheVariants as kind
use Rattle.snap_parse_laws.specs.Layouts as w
use Rattle.snap_parse_laws.specs.LayoutTexts as laid
use Rattle.snap_parse_laws.specs.LayoutRules as rule
use Rattle.snap_parse_laws.specs.LayoutTokens.{scalar_token, leaf_tokens, collection_tokens, items_tokens, item_tokens, value_tokens, entry_tokens, entries_tokens}
use Rattle.snap_parse_laws.proofs.Arrivals.{Goes, Ends}
use Rattle.snap_parse_laws.proofs.Beginnings.{starts}
use Rattle.snap_parse_laws.proofs.Escapes.{apart}
use Rattle.snap_parse_laws.proofs.Forms.{steps-append, Follows, at_column, at_end, begins-hollow, Opens, new_block, same_block}
use Rattle.snap_parse_laws.proofs.Gaps.{settles-blanks, settles-gap}
use Rattle.snap_parse_laws.proofs.Keys.{keeps-deeper, keeps-level}
use Rattle.snap_parse_laws.proofs.Leaves.{key_state, colon-fetched, first-key, further-key, adjacent_behind, key-fetched, leaf, leaf-goes}
use Rattle.snap_parse_laws.proofs.Literals.{begins-block}
use Rattle.snap_parse_laws.proofs.Pieces.{step-at, kept-deeper, ends-deeper, types-ends}
use Rattle.snap_parse_laws.proofs.Skips.{stops_at}
use Rattle.snap_parse_laws.proofs.Words.{EndsWord}

-- what begins a leaf, a collection or an entry is not skipped

begins-scalar : (v : w.Scalar) (rest : List ℕ) → rule.is_scalar v ≡ true → stops_at (slice_index (laid.spelled v ++ rest) 0) ≡ false
begins-scalar (w.quote x) rest h = refl
begins-scalar (w.bare []) rest h = absurd (cc)
begins-scalar (w.bare (c ∷ u)) rest h = (starts c u (and_parts (is_start c u) (is_tail false u) h).0).stops

pub begins-leaf : (v : w.Leaf) (k : ℕ) (e : rule.Position) (rest : List ℕ) → rule.IsLeaf e v → stops_at (slice_index (laid.leaf_onto k v rest) 0) ≡ false
begins-leaf (w.word s r) k e rest is = begins-scalar s (laid.rest_onto r rest) is.0
begins-leaf (w.empty q r) k e rest is = begins-hollow q
begins-leaf (w.block u count more) k e rest is = begins-block count (10 ∷ (blanks (k + 1 + 1) ++ (shifted (k + 1 + 1) u ++ (10 ∷ line_ends (empty_lines more count))))) rest

record IsKey (v : w.Scalar) : Type 0 where
  scalar : rule.is_scalar v ≡ true
  short : length (laid.spelled v) ≤ 1024

key_facts : (v : w.Scalar) → rule.is_key v ≡ true → IsKey v
key_facts v h =
    let two = and_parts (rule.is_scalar v) (nat_le (length (laid.spelled v)) 1024) h in
    let within : nat_le (length (laid.spelled v)) 1024 ≡ true = two.1 in
    record { scalar = two.0; short = grind (arith, nat_tests) }

begins-entry : (t : w.Entry) (j : ℕ) (e : rule.Position) (rest : List ℕ) → rule.IsEntry e t → stops_at (slice_index (laid.entry_onto j t rest) 0) ≡ false
begins-entry (w.simple v t) j e rest h = begins-scalar v (58 ∷ laid.value_onto j t rest) (key_facts v h.0).scalar
begins-entry (w.complex q t) j e rest h = refl

begins-entries : (es : w.Entries) (j : ℕ) (e : rule.Position) (rest : List ℕ) → rule.AreEntries e es → stops_at (slice_index (laid.entries_onto j es rest) 0) ≡ false
begins-entries (w.only t) j e rest h = begins-entry t j e rest h
begins-entries (w.pair t es) j e rest h = begins-entry t j rule.inside (blanks j ++ laid.entries_onto j es rest) h.0

pub begins-collection : (t : w.Collection) (j : ℕ) (e : rule.Position) (rest : List ℕ) → rule.IsCollection e t → stops_at (slice_index (laid.collection_onto j t rest) 0) ≡ false
begins-collection (w.list ts) j e rest h = refl
begins-collection (w.dict es) j e rest h = begins-entries es j e rest h

-- what stands after a mark or a colon is a blank or a line's end

alone-break : (e : w.Break) (x : List ℕ) → is_blank_or_end (slice_index (laid.break_onto e x) 0) ≡ true
alone-break w.feed x = refl
alone-break w.return_feed x = refl

alone-item : (t : w.Item) (j : ℕ) (rest : List ℕ) → is_blank_or_end (slice_index (laid.item_onto j t rest) 0) ≡ true
alone-item (w.piece n v) j rest = refl
alone-item (w.beside n v) j rest = refl
alone-item (w.below g n v) j rest = alone-break g.end (laid.fillers_onto g.fillers (blanks (j + 1 + n) ++ laid.collection_onto (j + 1 + n) v rest))

alone-items : (ts : w.Items) (j : ℕ) (rest : List ℕ) → is_blank_or_end (slice_index (laid.items_onto j ts rest) 0) ≡ true
alone-items (w.last t) j rest = alone-item t j rest
alone-items (w.item t ts) j rest = alone-item t j (blanks j ++ (45 ∷ laid.items_onto j ts rest))

alone-value : (v : w.Value) (j : ℕ) (rest : List ℕ) → is_blank_or_end (slice_index (laid.value_onto j v rest) 0) ≡ true
alone-value (w.piece_of n v) j rest = refl
alone-value (w.below_key g n v) j rest = alone-break g.end (laid.fillers_onto g.fillers (blanks (j + 1 + n) ++ laid.collection_onto (j + 1 + n) v rest))
alone-value (w.level g ts) j rest = alone-break g.end (laid.fillers_onto g.fillers (blanks j ++ (45 ∷ laid.items_onto j ts rest)))

-- the marks

dash-kind : (a : ℕ) (cs : List ℕ) (i l j : ℕ) → is_blank_or_end (slice_index cs 0) ≡ true → kind_of false a (here (45 ∷ cs) i l j) ≡ kind.BlockEntry
dash-kind a cs i l j blank = let dash : (slice_index cs 0 == 45) ≡ false = apart is_blank_or_end 45 (slice_index cs 0) refl blank in rw (dash, and_nothing (j == 0), blank) refl

mark-kind : (a : ℕ) (cs : List ℕ) (i l j : ℕ) → is_blank_or_end (slice_index cs 0) ≡ true → kind_of false a (here (63 ∷ cs) i l j) ≡ kind.Key
mark-kind a cs i l j blank = rw (and_nothing (j == 0), blank) refl

colon-kind : (a : ℕ) (cs : List ℕ) (i l j : ℕ) → is_blank_or_end (slice_index cs 0) ≡ true → kind_of false a (here (58 ∷ cs) i l j) ≡ kind.Value
colon-kind a cs i l j blank = rw (and_nothing (j == 0), blank) refl

-- the first item of a list
dash-new : (s : State) (cs : List ℕ) (i l j : ℕ) (h : List Token) (os : List ℕ) (is : Settles true s (here (45 ∷ cs) i l j) h os)
    → is_blank_or_end (slice_index cs 0) ≡ true → is_deeper j os ≡ true
    → let m = mark_of (here (45 ∷ cs) i l j) in
    fetched s ≡ Some (calm true is.adjacent (here cs (i + 1) l (j + 1)) (h ++ at m k.BlockSequenceStart ∷ [] ++ at m k.BlockEntry ∷ []) (j ∷ os))
dash-new s cs i l j h os is blank deep =
    let p : Place = here (45 ∷ cs) i l j in
    let m = mark_of p in
    let kinds : TokenKind → Option State = λ q. left_by (kind_step q (calm true is.adjacent p (h ++ ends m (Some j) os) (kept (Some j) os))) in
    step-at true s p h os is ∙ ap kinds (dash-kind is.adjacent cs i l j blank) ∙ rw (ends-deeper m j os deep, kept-deeper j os deep, append-nil h, deep) refl

-- a further item, or an item at the column of its dict
dash-again : (s : State) (cs : List ℕ) (i l j : ℕ) (h : List Token) (columns os : List ℕ) (is : Settles true s (here (45 ∷ cs) i l j) h columns)
    → is_blank_or_end (slice_index cs 0) ≡ true → kept (Some j) columns ≡ j ∷ os
    → let m = mark_of (here (45 ∷ cs) i l j) in
    fetched s ≡ Some (calm true is.adjacent (here cs (i + 1) l (j + 1)) (h ++ ends m (Some j) columns ++ at m k.BlockEntry ∷ []) (j ∷ os))
dash-again s cs i l j h columns os is blank same =
    let p : Place = here (45 ∷ cs) i l j in
    let m = mark_of p in
    let level : nat_lt j j ≡ false = grind (arith, nat_tests) in
    let kinds : TokenKind → Option State = λ q. left_by (kind_step q (calm true is.adjacent p (h ++ ends m (Some j) columns) (kept (Some j) columns))) in
    step-at true s p h columns is ∙ ap kinds (dash-kind is.adjacent cs i l j blank) ∙ rw (same, level) refl

-- the mark of a key, in a mapping that begins there
mark-new : (s : State) (cs : List ℕ) (i l j : ℕ) (h : List Token) (os : List ℕ) (is : Settles true s (here (63 ∷ cs) i l j) h os)
    → is_blank_or_end (slice_index cs 0) ≡ true → is_deeper j os ≡ true
    → let m = mark_of (here (63 ∷ cs) i l j) in
    fetched s ≡ Some (calm true is.adjacent (here cs (i + 1) l (j + 1)) (h ++ at m k.BlockMappingStart ∷ [] ++ at m k.Key ∷ []) (j ∷ os))
mark-new s cs i l j h os is blank deep =
    let p : Place = here (63 ∷ cs) i l j in
    let m = mark_of p in
    let kinds : TokenKind → Option State = λ q. left_by (kind_step q (calm true is.adjacent p (h ++ ends m (Some j) os) (kept (Some j) os))) in
    step-at true s p h os is ∙ ap kinds (mark-kind is.adjacent cs i l j blank) ∙ rw (ends-deeper m j os deep, kept-deeper j os deep, append-nil h, deep) refl

mark-again : (s : State) (cs : List ℕ) (i l j : ℕ) (h : List Token) (columns os : List ℕ) (is : Settles true s (here (63 ∷ cs) i l j) h columns)
    → is_blank_or_end (slice_index cs 0) ≡ true → kept (Some j) columns ≡ j ∷ os
    → let m = mark_of (here (63 ∷ cs) i l j) in
    fetched s ≡ Some (calm true is.adjacent (here cs (i + 1) l (j + 1)) (h ++ ends m (Some j) columns ++ at m k.Key ∷ []) (j ∷ os))
mark-again s cs i l j h columns os is blank same =
    let p : Place = here (63 ∷ cs) i l j in
    let m = mark_of p in
    let level : nat_lt j j ≡ false = grind (arith, nat_tests) in
    let kinds : TokenKind → Option State = λ q. left_by (kind_step q (calm true is.adjacent p (h ++ ends m (Some j) columns) (kept (Some j) columns))) in
    step-at true s p h columns is ∙ ap kinds (mark-kind is.adjacent cs i l j blank) ∙ rw (same, level) refl

-- the mark of a value after such a key
mark-value : (s : State) (cs : List ℕ) (i l j : ℕ) (h : List Token) (columns os : List ℕ) (is : Settles true s (here (58 ∷ cs) i l j) h columns)
    → is_blank_or_end (slice_index cs 0) ≡ true → kept (Some j) columns ≡ j ∷ os
    → let m = mark_of (here (58 ∷ cs) i l j) in
    fetched s ≡ Some (calm true is.adjacent (here cs (i + 1) l (j + 1)) (h ++ ends m (Some j) columns ++ at m k.Value ∷ []) (j ∷ os))
mark-value s cs i l j h columns os is blank same =
    let p : Place = here (58 ∷ cs) i l j in
    let m = mark_of p in
    let level : nat_lt j j ≡ false = grind (arith, nat_tests) in
    let kinds : TokenKind → Option State = λ q. left_by (kind_step q (calm true is.adjacent p (h ++ ends m (Some j) columns) (kept (Some j) columns))) in
    step-at true s p h columns is ∙ ap kinds (colon-kind is.adjacent cs i l j blank) ∙ rw (same, level) refl

-- the next line is not right of a column
abbrev Within : Option ℕ → ℕ → Type 0
Within c j = (col : ℕ) → nat_lt j col ≡ true → is_right_of c col ≡ true

within : (c : Option ℕ) (j : ℕ) → is_right_of c j ≡ true → Within c j
within None j h = λ col g. refl
within (Some m) j h = λ col g. grind (arith, nat_tests)

ends-word : (c : Option ℕ) (m : ℕ) (cs : List ℕ) (j : ℕ) (os : List ℕ) → Follows c m cs → is_right_of c j ≡ true → EndsWord (j ∷ os) m cs
ends-word _ _ _ j os (at_column m cs) h = let e : nat_le m j ≡ true = grind (arith, nat_tests) in inr e
ends-word _ _ _ j os at_end h = inl refl

list-tokens : (h : List Token) (a b : Token) (x y : List TokenType)
    → map type_of (h ++ a ∷ [] ++ b ∷ []) ++ x ++ (k.BlockEnd ∷ y) ≡ map type_of h ++ (type_of a ∷ type_of b ∷ (x ++ k.BlockEnd ∷ [])) ++ y
list-tokens h a b x y = simp (map-append, append_assoc)

dict-tokens : (x t y : List TokenType) → x ++ k.BlockMappingStart ∷ [] ++ t ++ (k.BlockEnd ∷ y) ≡ x ++ (k.BlockMappingStart ∷ (t ++ k.BlockEnd ∷ [])) ++ y
dict-tokens x t y = simp append_assoc

one-type : (h z : List Token) (x : List TokenType) (a : Token) → map type_of z ≡ x → map type_of (h ++ z ++ a ∷ []) ≡ map type_of h ++ x ++ type_of a ∷ []
one-type h z x a e = map-append type_of (h ++ z) (a ∷ []) ∙ rw (map-append type_of h z, e) refl

-- a run that goes on
then : (s t : State) (b b_then x y : List TokenType) (c : Option ℕ) (os cs : List ℕ) → Steps s t → b_then ≡ b ++ x → Goes t b_then y c os cs → Goes s b (x ++ y) c os cs
then s t b b_then x y c os cs steps is on =
    let after : List TokenType → List TokenType = λ z. z ++ y ++ closing c os in
    record {
      to = on.to;
      steps = steps-append s t on.to steps on.steps;
      index = on.index;
      line = on.line;
      held = on.held;
      columns = on.columns;
      arrives = on.arrives;
      kept = on.kept;
      given = on.given ∙ ap after is ∙ simp append_assoc;
    }

-- the tokens given where all blocks right of the column j are closed
so-far : (s : State) (b x : List TokenType) (j : ℕ) (os cs : List ℕ) (one : Goes s b x (Some j) (j ∷ os) cs) → map type_of one.held ++ closing (Some j) one.columns ≡ b ++ x
so-far s b x j os cs one = let level : nat_lt j j ≡ false = grind (arith, nat_tests) in one.given ∙ rw level (append-nil (b ++ x))

same-columns : (s : State) (b x : List TokenType) (j : ℕ) (os cs : List ℕ) (one : Goes s b x (Some j) (j ∷ os) cs) → kept (Some j) one.columns ≡ j ∷ os
same-columns s b x j os cs one = let level : nat_lt j j ≡ false = grind (arith, nat_tests) in one.kept ∙ rw level refl

-- a simple key and its colon are fetched
record KeyHead (s : State) (before : List TokenType) (v : w.Scalar) (rest : List ℕ) (l j : ℕ) (os : List ℕ) : Type 0 where
  adjacent : ℕ
  index : ℕ
  column : ℕ
  held : List Token
  right : nat_lt j column ≡ true
  steps : Steps s (calm false adjacent (here rest index l column) held (j ∷ os))
  given : map type_of held ≡ before ++ (k.Key ∷ scalar_token v ∷ k.Value ∷ [])

-- the mark of a key is fetched
record MarkHead (s : State) (before : List TokenType) (rest : List ℕ) (i l j : ℕ) (os : List ℕ) : Type 0 where
  adjacent : ℕ
  held : List Token
  steps : Steps s (calm true adjacent (here rest (i + 1) l (j + 1)) held (j ∷ os))
  given : map type_of held ≡ before ++ (k.Key ∷ [])

new-types : (h z : List Token) (a b d e : Token) → z ≡ []
    → map type_of (h ++ z ++ (a ∷ b ∷ d ∷ []) ++ e ∷ []) ≡ map type_of h ++ type_of a ∷ [] ++ (type_of b ∷ type_of d ∷ type_of e ∷ [])
new-types h z a b d e gone = rw gone (simp (map-append, append_assoc))

again-types : (h z : List Token) (x : List TokenType) (a b d : Token) → map type_of z ≡ x
    → map type_of (h ++ z ++ (a ∷ b ∷ []) ++ d ∷ []) ≡ map type_of h ++ x ++ (type_of a ∷ type_of b ∷ type_of d ∷ [])
again-types h z x a b d e =
    let f : map type_of (h ++ z ++ (a ∷ b ∷ []) ++ d ∷ []) ≡ map type_of h ++ map type_of z ++ (type_of a ∷ type_of b ∷ type_of d ∷ []) = simp (map-append, append_assoc) in
    f ∙ rw e refl

key-head : (j : ℕ) (columns os : List ℕ) (opening : List TokenType) → Opens j columns os opening → (s : State) (v : w.Scalar) (rest : List ℕ) (i l : ℕ) (h : List Token)
    → Settles true s (here (laid.spelled v ++ (58 ∷ rest)) i l j) h columns → IsKey v → is_blank_or_end (slice_index rest 0) ≡ true
    → KeyHead s (map type_of h ++ opening) v rest l j os
key-head _ _ _ _ (new_block j os deep) s v rest i l h stands key blank =
    let n : ℕ = length (laid.spelled v) in
    let p : Place = here (laid.spelled v ++ (58 ∷ rest)) i l j in
    let before : List Token = h ++ ends (mark_of p) (Some j) os in
    let colon = mark_of (here (58 ∷ rest) (i + n) l (j + n)) in
    let a : ℕ = adjacent_behind v stands.adjacent (i + n) in
    let k1 : State = key_state a p before os n (scalar_token v) rest in
    let held : List Token = before ++ (at colon k.BlockMappingStart ∷ at (mark_of p) k.Key ∷ at (mark_of p) (scalar_token v) ∷ []) ++ at colon k.Value ∷ [] in
    let t : State = calm false a (here rest (i + n + 1) l (j + n + 1)) held (j ∷ os) in
    let some : State → Option State = λ x. Some x in
    let fetched_colon = colon-fetched a p before os n (scalar_token v) rest (keeps-deeper os j deep) key.short blank ∙ ap some (first-key a p before os n (scalar_token v) rest deep) in
    record {
      adjacent = a;
      index = i + n + 1;
      column = j + n + 1;
      held = held;
      right = grind (arith, nat_tests);
      steps = one_more s k1 t stands.ended (key-fetched s v rest i l j h os os stands key.scalar (kept-deeper j os deep) blank) (one_more k1 t t refl fetched_colon (none_more t));
      given = new-types h (ends (mark_of p) (Some j) os) (at colon k.BlockMappingStart) (at (mark_of p) k.Key) (at (mark_of p) (scalar_token v)) (at colon k.Value) (ends-deeper (mark_of p) j os deep);
    }
key-head _ _ _ _ (same_block j columns os same) s v rest i l h stands key blank =
    let n : ℕ = length (laid.spelled v) in
    let p : Place = here (laid.spelled v ++ (58 ∷ rest)) i l j in
    let before : List Token = h ++ ends (mark_of p) (Some j) columns in
    let colon = mark_of (here (58 ∷ rest) (i + n) l (j + n)) in
    let a : ℕ = adjacent_behind v stands.adjacent (i + n) in
    let k1 : State = key_state a p before (j ∷ os) n (scalar_token v) rest in
    let held : List Token = before ++ (at (mark_of p) k.Key ∷ at (mark_of p) (scalar_token v) ∷ []) ++ at colon k.Value ∷ [] in
    let t : State = calm false a (here rest (i + n + 1) l (j + n + 1)) held (j ∷ os) in
    let some : State → Option State = λ x. Some x in
    let fetched_colon = colon-fetched a p before (j ∷ os) n (scalar_token v) rest (keeps-level os j) key.short blank ∙ ap some (further-key a p before os n (scalar_token v) rest) in
    record {
      adjacent = a;
      index = i + n + 1;
      column = j + n + 1;
      held = held;
      right = grind (arith, nat_tests);
      steps = one_more s k1 t stands.ended (key-fetched s v rest i l j h columns (j ∷ os) stands key.scalar same blank) (one_more k1 t t refl fetched_colon (none_more t));
      given = again-types h (ends (mark_of p) (Some j) columns) (closing (Some j) columns) (at (mark_of p) k.Key) (at (mark_of p) (scalar_token v)) (at colon k.Value) (types-ends (mark_of p) (Some j) columns);
    }

mark-head : (j : ℕ) (columns os : List ℕ) (opening : List TokenType) → Opens j columns os opening → (s : State) (rest : List ℕ) (i l : ℕ) (h : List Token)
    → Settles true s (here (63 ∷ rest) i l j) h columns → is_blank_or_end (slice_index rest 0) ≡ true → MarkHead s (map type_of h ++ opening) rest i l j os
mark-head _ _ _ _ (new_block j os deep) s rest i l h stands blank =
    let m = mark_of (here (63 ∷ rest) i l j) in
    let held : List Token = h ++ at m k.BlockMappingStart ∷ [] ++ at m k.Key ∷ [] in
    let t : State = calm true stands.adjacent (here rest (i + 1) l (j + 1)) held (j ∷ os) in
    record {
      adjacent = stands.adjacent;
      held = held;
      steps = one_more s t t stands.ended (mark-new s rest i l j h os stands blank deep) (none_more t);
      given = one-type h (at m k.BlockMappingStart ∷ []) (k.BlockMappingStart ∷ []) (at m k.Key) refl;
    }
mark-head _ _ _ _ (same_block j columns os same) s rest i l h stands blank =
    let m = mark_of (here (63 ∷ rest) i l j) in
    let held : List Token = h ++ ends m (Some j) columns ++ at m k.Key ∷ [] in
    let t : State = calm true stands.adjacent (here rest (i + 1) l (j + 1)) held (j ∷ os) in
    record {
      adjacent = stands.adjacent;
      held = held;
      steps = one_more s t t stands.ended (mark-again s rest i l j h columns os stands blank same) (none_more t);
      given = one-type h (ends m (Some j) columns) (closing (Some j) columns) (at m k.Key) (types-ends m (Some j) columns);
    }

deeper-by : (j n : ℕ) → nat_lt j (j + 1 + n) ≡ true
deeper-by j n = grind (arith, nat_tests)

-- the lines of a block
deeper-inside : (j : ℕ) → nat_lt j (j + 1 + 1) ≡ true
deeper-inside j = grind (arith, nat_tests)

deeper-beside : (j n : ℕ) → nat_lt j (j + 1 + 1 + n) ≡ true
deeper-beside j n = grind (arith, nat_tests)

mutual
  pub collection : (t : w.Collection) (e : rule.Position) → rule.IsCollection e t → (j : ℕ) (os : List ℕ) → is_deeper j os ≡ true → (c : Option ℕ) (m : ℕ) (cs : List ℕ) → Follows c m cs → Ends e c
      → stops_at (slice_index cs 0) ≡ false → is_right_of c j ≡ true
      → (s : State) (i l : ℕ) (h : List Token) → Settles true s (here (laid.collection_onto j t (blanks m ++ cs)) i l j) h os
      → Goes s (map type_of h) (collection_tokens t) c os cs
  collection (w.list ts) e is j os deep c m cs follows fits stop right s i l h stands =
      let rest : List ℕ = laid.items_onto j ts (blanks m ++ cs) in
      let mark = mark_of (here (45 ∷ rest) i l j) in
      let held : List Token = h ++ at mark k.BlockSequenceStart ∷ [] ++ at mark k.BlockEntry ∷ [] in
      let t : State = calm true stands.adjacent (here rest (i + 1) l (j + 1)) held (j ∷ os) in
      let inner = items ts e is j os c m cs follows fits stop (within c j right) (ends-word c m cs j os follows right) stands.adjacent (i + 1) l held in
      record {
        to = inner.to;
        steps = one_more s t inner.to stands.ended (dash-new s rest i l j h os stands (alone-items ts j (blanks m ++ cs)) deep) inner.steps;
        index = inner.index;
        line = inner.line;
        held = inner.held;
        columns = inner.columns;
        arrives = inner.arrives;
        kept = inner.kept ∙ rw right refl;
        given = inner.given ∙ rw right (list-tokens h (at mark k.BlockSequenceStart) (at mark k.BlockEntry) (items_tokens ts) (closing c os));
      }
  collection (w.dict es) e is j os deep c m cs follows fits stop right s i l h stands =
      let inner = entries es e is j os os (k.BlockMappingStart ∷ []) (new_block j os deep) c m cs follows fits stop right s i l h stands in
      record {
        to = inner.to;
        steps = inner.steps;
        index = inner.index;
        line = inner.line;
        held = inner.held;
        columns = inner.columns;
        arrives = inner.arrives;
        kept = inner.kept ∙ rw right refl;
        given = inner.given ∙ rw right (dict-tokens (map type_of h) (entries_tokens es) (closing c os));
      }

  -- after a mark at column j
  pub item : (t : w.Item) (e : rule.Position) → rule.IsItem e t → (j : ℕ) (os : List ℕ) (c : Option ℕ) (m : ℕ) (cs : List ℕ) → Follows c m cs → Ends e c
      → stops_at (slice_index cs 0) ≡ false → Within c j → EndsWord (j ∷ os) m cs → (a i l : ℕ) (h : List Token)
      → Goes (calm true a (here (laid.item_onto j t (blanks m ++ cs)) i l (j + 1)) h (j ∷ os)) (map type_of h) (item_tokens t) c (j ∷ os) cs
  item (w.piece n v) e is j os c m cs follows fits stop near end a i l h =
      let s : State = calm true a (here (laid.item_onto j (w.piece n v) (blanks m ++ cs)) i l (j + 1)) h (j ∷ os) in
      let stands = settles-blanks n (laid.leaf_onto j v (blanks m ++ cs)) true a i l (j + 1) h (j ∷ os) (begins-leaf v j e (blanks m ++ cs) is) in
      leaf-goes s (map type_of h) (leaf_tokens v) c (j ∷ os) cs
      (leaf v j e is true (j + 1 + 1 + n) (j ∷ os) (deeper-beside j n) (deeper-inside j) c m cs follows fits (near (j + 1 + 1) (deeper-inside j)) stop end s (i + 1 + n) l h stands)
  item (w.beside n v) e is j os c m cs follows fits stop near end a i l h =
      let s : State = calm true a (here (laid.item_onto j (w.beside n v) (blanks m ++ cs)) i l (j + 1)) h (j ∷ os) in
      let col : ℕ = j + 1 + 1 + n in
      let stands = settles-blanks n (laid.collection_onto col v (blanks m ++ cs)) true a i l (j + 1) h (j ∷ os) (begins-collection v col e (blanks m ++ cs) is) in
      collection v e is col (j ∷ os) (deeper-beside j n) c m cs follows fits stop (near col (deeper-beside j n)) s (i + 1 + n) l h stands
  item (w.below g n v) e is j os c m cs follows fits stop near end a i l h =
      let s : State = calm true a (here (laid.item_onto j (w.below g n v) (blanks m ++ cs)) i l (j + 1)) h (j ∷ os) in
      let col : ℕ = j + 1 + n in
      let there = settles-gap g true a col i l (j + 1) (laid.collection_onto col v (blanks m ++ cs)) h (j ∷ os) is.0 (begins-collection v col e (blanks m ++ cs) is.1) in
      collection v e is.1 col (j ∷ os) (deeper-by j n) c m cs follows fits stop (near col (deeper-by j n)) s there.index there.line h there.settles

  -- after the first mark of items at column j
  pub items : (ts : w.Items) (e : rule.Position) → rule.AreItems e ts → (j : ℕ) (os : List ℕ) (c : Option ℕ) (m : ℕ) (cs : List ℕ) → Follows c m cs → Ends e c
      → stops_at (slice_index cs 0) ≡ false → Within c j → EndsWord (j ∷ os) m cs → (a i l : ℕ) (h : List Token)
      → Goes (calm true a (here (laid.items_onto j ts (blanks m ++ cs)) i l (j + 1)) h (j ∷ os)) (map type_of h) (items_tokens ts) c (j ∷ os) cs
  items (w.last t) e is j os c m cs follows fits stop near end a i l h = item t e is j os c m cs follows fits stop near end a i l h
  items (w.item t ts) e is j os c m cs follows fits stop near end a i l h =
      let outside : nat_le j j ≡ true = grind (arith, nat_tests) in
      let rest : List ℕ = laid.items_onto j ts (blanks m ++ cs) in
      let next : List ℕ = 45 ∷ rest in
      let s : State = calm true a (here (laid.item_onto j t (blanks j ++ next)) i l (j + 1)) h (j ∷ os) in
      let first = item t rule.inside is.0 j os (Some j) j next (at_column j next) tt refl (λ col d. d) (inr outside) a i l h in
      let mark = mark_of (here next first.index first.line j) in
      let held : List Token = first.held ++ ends mark (Some j) first.columns ++ at mark k.BlockEntry ∷ [] in
      let u : State = calm true first.arrives.adjacent (here rest (first.index + 1) first.line (j + 1)) held (j ∷ os) in
      let fetched_dash = dash-again first.to rest first.index first.line j first.held first.columns os first.arrives (alone-items ts j (blanks m ++ cs))
      (same-columns s (map type_of h) (item_tokens t) j os next first) in
      let others = items ts e is.1 j os c m cs follows fits stop near end first.arrives.adjacent (first.index + 1) first.line held in
      let steps : Steps s u = steps-append s first.to u first.steps (one_more first.to u u first.arrives.ended fetched_dash (none_more u)) in
      let entry_of : List TokenType → List TokenType = λ x. x ++ k.BlockEntry ∷ [] in
      let given : map type_of held ≡ map type_of h ++ (item_tokens t ++ k.BlockEntry ∷ []) =
      one-type first.held (ends mark (Some j) first.columns) (closing (Some j) first.columns) (at mark k.BlockEntry) (types-ends mark (Some j) first.columns)
      ∙ ap entry_of (so-far s (map type_of h) (item_tokens t) j os next first) ∙ append_assoc (map type_of h) (item_tokens t) (k.BlockEntry ∷ []) in
      let both = then s u (map type_of h) (map type_of held) (item_tokens t ++ k.BlockEntry ∷ []) (items_tokens ts) c (j ∷ os) cs steps given others in
      let Q : List TokenType → Type 0 = λ x. Goes s (map type_of h) x c (j ∷ os) cs in
      subst Q (append_assoc (item_tokens t) (k.BlockEntry ∷ []) (items_tokens ts)) both

  -- after the colon of a key at column j
  pub value : (v : w.Value) (e : rule.Position) → rule.IsValue e v → (j : ℕ) (os : List ℕ) (c : Option ℕ) (m : ℕ) (cs : List ℕ) → Follows c m cs → Ends e c
      → stops_at (slice_index cs 0) ≡ false → Within c j → EndsWord (j ∷ os) m cs → (a i l column : ℕ) (h : List Token) → nat_lt j column ≡ true
      → Goes (calm false a (here (laid.value_onto j v (blanks m ++ cs)) i l column) h (j ∷ os)) (map type_of h) (value_tokens v) c (j ∷ os) cs
  value (w.piece_of n v) e is j os c m cs follows fits stop near end a i l column h right =
      let s : State = calm false a (here (laid.value_onto j (w.piece_of n v) (blanks m ++ cs)) i l column) h (j ∷ os) in
      let stands = settles-blanks n (laid.leaf_onto j v (blanks m ++ cs)) false a i l column h (j ∷ os) (begins-leaf v j e (blanks m ++ cs) is) in
      let deeper : nat_lt j (column + 1 + n) ≡ true = grind (arith, nat_tests, right) in
      leaf-goes s (map type_of h) (leaf_tokens v) c (j ∷ os) cs
      (leaf v j e is false (column + 1 + n) (j ∷ os) deeper (deeper-inside j) c m cs follows fits (near (j + 1 + 1) (deeper-inside j)) stop end s (i + 1 + n) l h stands)
  value (w.below_key g n v) e is j os c m cs follows fits stop near end a i l column h right =
      let s : State = calm false a (here (laid.value_onto j (w.below_key g n v) (blanks m ++ cs)) i l column) h (j ∷ os) in
      let col : ℕ = j + 1 + n in
      let there = settles-gap g false a col i l column (laid.collection_onto col v (blanks m ++ cs)) h (j ∷ os) is.0 (begins-collection v col e (blanks m ++ cs) is.1) in
      collection v e is.1 col (j ∷ os) (deeper-by j n) c m cs follows fits stop (near col (deeper-by j n)) s there.index there.line h there.settles
  value (w.level g ts) e is j os c m cs follows fits stop near end a i l column h right =
      let s : State = calm false a (here (laid.value_onto j (w.level g ts) (blanks m ++ cs)) i l column) h (j ∷ os) in
      let level : nat_lt j j ≡ false = grind (arith, nat_tests) in
      let rest : List ℕ = laid.items_onto j ts (blanks m ++ cs) in
      let there = settles-gap g false a j i l column (45 ∷ rest) h (j ∷ os) is.0 refl in
      let mark = mark_of (here (45 ∷ rest) there.index there.line j) in
      let held : List Token = h ++ ends mark (Some j) (j ∷ os) ++ at mark k.BlockEntry ∷ [] in
      let u : State = calm true there.settles.adjacent (here rest (there.index + 1) there.line (j + 1)) held (j ∷ os) in
      let same : kept (Some j) (j ∷ os) ≡ j ∷ os = rw level refl in
      let fetched_dash = dash-again s rest there.index there.line j h (j ∷ os) os there.settles (alone-items ts j (blanks m ++ cs)) same in
      let on = items ts e is.1 j os c m cs follows fits stop near end there.settles.adjacent (there.index + 1) there.line held in
      let none : map type_of (ends mark (Some j) (j ∷ os)) ≡ [] = rw level refl in
      let given : map type_of held ≡ map type_of h ++ k.BlockEntry ∷ [] =
      one-type h (ends mark (Some j) (j ∷ os)) [] (at mark k.BlockEntry) none ∙ rw (append-nil (map type_of h)) refl in
      then s u (map type_of h) (map type_of held) (k.BlockEntry ∷ []) (items_tokens ts) c (j ∷ os) cs
      (one_more s u u there.settles.ended fetched_dash (none_more u)) given on

  pub entry : (t : w.Entry) (e : rule.Position) → rule.IsEntry e t → (j : ℕ) (columns os : List ℕ) (opening : List TokenType) → Opens j columns os opening → (c : Option ℕ) (m : ℕ) (cs : List ℕ)
      → Follows c m cs → Ends e c → stops_at (slice_index cs 0) ≡ false → Within c j → EndsWord (j ∷ os) m cs
      → (s : State) (i l : ℕ) (h : List Token) → Settles true s (here (laid.entry_onto j t (blanks m ++ cs)) i l j) h columns
      → Goes s (map type_of h ++ opening) (entry_tokens t) c (j ∷ os) cs
  entry (w.simple v t) e is j columns os opening opens c m cs follows fits stop near end s i l h stands =
      let rest : List ℕ = laid.value_onto j t (blanks m ++ cs) in
      let head = key-head j columns os opening opens s v rest i l h stands (key_facts v is.0) (alone-value t j (blanks m ++ cs)) in
      let u : State = calm false head.adjacent (here rest head.index l head.column) head.held (j ∷ os) in
      let on = value t e is.1 j os c m cs follows fits stop near end head.adjacent head.index l head.column head.held head.right in
      then s u (map type_of h ++ opening) (map type_of head.held) (k.Key ∷ scalar_token v ∷ k.Value ∷ []) (value_tokens t) c (j ∷ os) cs head.steps head.given on
  entry (w.complex q t) e is j columns os opening opens c m cs follows fits stop near end s i l h stands =
      let outside : nat_le j j ≡ true = grind (arith, nat_tests) in
      let second : List ℕ = laid.item_onto j t (blanks m ++ cs) in
      let next : List ℕ = 58 ∷ second in
      let rest : List ℕ = laid.item_onto j q (blanks j ++ next) in
      let head = mark-head j columns os opening opens s rest i l h stands (alone-item q j (blanks j ++ next)) in
      let u : State = calm true head.adjacent (here rest (i + 1) l (j + 1)) head.held (j ∷ os) in
      let one = item q rule.inside is.0 j os (Some j) j next (at_column j next) tt refl (λ col d. d) (inr outside) head.adjacent (i + 1) l head.held in
      let mark = mark_of (here next one.index one.line j) in
      let held : List Token = one.held ++ ends mark (Some j) one.columns ++ at mark k.Value ∷ [] in
      let x : State = calm true one.arrives.adjacent (here second (one.index + 1) one.line (j + 1)) held (j ∷ os) in
      let fetched_mark = mark-value one.to second one.index one.line j one.held one.columns os one.arrives (alone-item t j (blanks m ++ cs))
      (same-columns u (map type_of head.held) (item_tokens q) j os next one) in
      let on = item t e is.1 j os c m cs follows fits stop near end one.arrives.adjacent (one.index + 1) one.line held in
      let steps : Steps u x = steps-append u one.to x one.steps (one_more one.to x x one.arrives.ended fetched_mark (none_more x)) in
      let value_of : List TokenType → List TokenType = λ y. y ++ k.Value ∷ [] in
      let given : map type_of held ≡ map type_of head.held ++ (item_tokens q ++ k.Value ∷ []) =
      one-type one.held (ends mark (Some j) one.columns) (closing (Some j) one.columns) (at mark k.Value) (types-ends mark (Some j) one.columns)
      ∙ ap value_of (so-far u (map type_of head.held) (item_tokens q) j os next one) ∙ append_assoc (map type_of head.held) (item_tokens q) (k.Value ∷ []) in
      let both = then u x (map type_of head.held) (map type_of held) (item_tokens q ++ k.Value ∷ []) (item_tokens t) c (j ∷ os) cs steps given on in
      let Q : List TokenType → Type 0 = λ y. Goes u (map type_of head.held) y c (j ∷ os) cs in
      then s u (map type_of h ++ opening) (map type_of head.held) (k.Key ∷ []) (item_tokens q ++ (k.Value ∷ item_tokens t)) c (j ∷ os) cs head.steps head.given
      (subst Q (append_assoc (item_tokens q) (k.Value ∷ []) (item_tokens t)) both)

  pub entries : (es : w.Entries) (e : rule.Position) → rule.AreEntries e es → (j : ℕ) (columns os : List ℕ) (opening : List TokenType) → Opens j columns os opening → (c : Option ℕ) (m : ℕ) (cs : List ℕ)
      → Follows c m cs → Ends e c → stops_at (slice_index cs 0) ≡ false → is_right_of c j ≡ true
      → (s : State) (i l : ℕ) (h : List Token) → Settles true s (here (laid.entries_onto j es (blanks m ++ cs)) i l j) h columns
      → Goes s (map type_of h ++ opening) (entries_tokens es) c (j ∷ os) cs
  entries (w.only t) e is j columns os opening opens c m cs follows fits stop right s i l h stands =
      entry t e is j columns os opening opens c m cs follows fits stop (within c j right) (ends-word c m cs j os follows right) s i l h stands
  entries (w.pair t es) e is j columns os opening opens c m cs follows fits stop right s i l h stands =
      let outside : nat_le j j ≡ true = grind (arith, nat_tests) in
      let next : List ℕ = laid.entries_onto j es (blanks m ++ cs) in
      let b : List TokenType = map type_of h ++ opening in
      let one = entry t rule.inside is.0 j columns os opening opens (Some j) j next (at_column j next) tt (begins-entries es j e (blanks m ++ cs) is.1) (λ col d. d) (inr outside) s i l h stands in
      let others = entries es e is.1 j one.columns os (closing (Some j) one.columns) (same_block j one.columns os (same-columns s b (entry_tokens t) j os next one)) c m cs follows fits stop right
      one.to one.index one.line one.held one.arrives in
      then s one.to b (map type_of one.held ++ closing (Some j) one.columns) (entry_tokens t) (entries_tokens es) c (j ∷ os) cs one.steps (so-far s b (entry_tokens t) j os next one) others
