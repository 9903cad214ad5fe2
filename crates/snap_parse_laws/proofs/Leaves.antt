-- Scalars, simple keys, literal blocks and empty collections of a layout.
use Rattle.snap_parse_laws.proofs.Prelude.{◌≡◌, ℕ, suc, ◌+◌, ◌-◌, ◌≤◌, List, [], ◌∷◌, ◌++◌, Bool, true, false, refl, ap, ◌∙◌, arith, append-nil, append_assoc, Some, Option, map, nat_lt, length, nat_tests, slice_index, is_blank_or_end, Place, mark_of, Plain, plain_from, Token, TokenType, kind_step, innermost, value_of_key, kind_of, State, unrolled, kept, ends, is_deeper, is_right_of, at, in_flow, TokenKind, is_start, is_tail, is_bare, blanks, block_at, shifted, line_ends, empty_lines, open_sign, close_sign, open_token, close_token, left_by, fetched, Steps, none_more, one_more, type_of, settled, here, calm, Settles, closing, and_parts, map-append}
use Rattle.snap_scan_tokens.specs.declared.token.TokenType.TheVariants as t
use Rattle.snap_scan_tokens.specs.declared.token.TScalarStyle.TheVariants as style
use Rattle.snap_scan.specs.declared.kind.TokenKind.TheVariants as k
use Rattle.snap_parse_laws.specs.Layouts as w
use Rattle.snap_parse_laws.specs.LayoutTexts as laid
use Rattle.snap_parse_laws.specs.LayoutRules as rule
use Rattle.snap_parse_laws.specs.LayoutTokens.{scalar_token, leaf_tokens}
use Rattle.snap_parse_laws.proofs.Arrivals.{Arrived, Goes, Ends, rest-arrives, rest-read}
use Rattle.snap_parse_laws.proofs.Blocks.{read-block}
use Rattle.snap_parse_laws.proofs.Beginnings.{starts, quote-kind, colon-kind, open_kind, opened-kind}
use Rattle.snap_parse_laws.proofs.Ends.{outside, key_of, in-time}
use Rattle.snap_parse_laws.proofs.Flows.{inside, opened-is, still-fresh, step-close}
use Rattle.snap_parse_laws.proofs.Forms.{Follows}
use Rattle.snap_parse_laws.proofs.Gaps.{standing}
use Rattle.snap_parse_laws.proofs.Keys.{insert-at, key_at, Keeps, plain-colon, with_at, key-place}
use Rattle.snap_parse_laws.proofs.Letters.{read_letters, letters-whole}
use Rattle.snap_parse_laws.proofs.Literals.{follows-below, block-arrived, step-block}
use Rattle.snap_parse_laws.proofs.Pieces.{fetch-settled, step-at, plain_from-letter, read-quote, kept-deeper, ends-deeper}
use Rattle.snap_parse_laws.proofs.Skips.{stops_at}
use Rattle.snap_parse_laws.proofs.Words.{EndsWord, plain-text}

-- a key of n characters that gives this token, once it is fetched
abbrev pub key_state : ℕ → Place → List Token → List ℕ → ℕ → TokenType → List ℕ → State
key_state a p h os n token rest =
    outside (Some (key_at p h)) a (here (58 ∷ rest) (p.index + n) p.line (p.col + n)) (h ++ at (mark_of p) token ∷ []) os

pub colon-fetched : (a : ℕ) (p : Place) (h : List Token) (os : List ℕ) (n : ℕ) (token : TokenType) (rest : List ℕ) → Keeps os p.col → n ≤ 1024 → is_blank_or_end (slice_index rest 0) ≡ true
    → fetched (key_state a p h os n token rest) ≡ Some (value_of_key (key_at p h) (key_state a p h os n token rest))
colon-fetched a p h os n token rest keeps short blank =
    let u : State = key_state a p h os n token rest in
    let level : nat_lt p.line p.line ≡ false = grind (arith, nat_tests) in
    let near : nat_lt 1024 (p.index + n - p.index) ≡ false = grind (arith, nat_tests) in
    let fresh_key : settled u ≡ u = rw (level, near) refl in
    let opened : unrolled (Some (p.col + n)) u ≡ u = rw (keeps.ends (mark_of u.place) n, keeps.kept n, append-nil u.held) refl in
    let at_state : State → Option State = λ x. left_by (kind_step (kind_of (in_flow x) a x.place) x) in
    let kinds : TokenKind → Option State = λ q. left_by (kind_step q u) in
    fetch-settled u u refl refl refl fresh_key ∙ ap at_state opened ∙ ap kinds (colon-kind a rest (p.index + n) p.line (p.col + n) blank)

-- the first key of a mapping
pub first-key : (a : ℕ) (p : Place) (h : List Token) (os : List ℕ) (n : ℕ) (token : TokenType) (rest : List ℕ) → is_deeper p.col os ≡ true
    → let m = mark_of (here (58 ∷ rest) (p.index + n) p.line (p.col + n)) in
    value_of_key (key_at p h) (key_state a p h os n token rest)
    ≡ calm false a (here rest (p.index + n + 1) p.line (p.col + n + 1)) (h ++ (at m t.BlockMappingStart ∷ at (mark_of p) t.Key ∷ at (mark_of p) token ∷ []) ++ at m t.Value ∷ []) (p.col ∷ os)
first-key a p h os n token rest deep =
    let scalar : Token = at (mark_of p) token in
    rw (
      insert-at h (scalar ∷ []) (at (mark_of p) t.Key),
      deep,
      insert-at h (at (mark_of p) t.Key ∷ scalar ∷ []) (at (mark_of (here (58 ∷ rest) (p.index + n) p.line (p.col + n))) t.BlockMappingStart),
    ) refl

-- a further key of a mapping
pub further-key : (a : ℕ) (p : Place) (h : List Token) (os : List ℕ) (n : ℕ) (token : TokenType) (rest : List ℕ)
    → let m = mark_of (here (58 ∷ rest) (p.index + n) p.line (p.col + n)) in
    value_of_key (key_at p h) (key_state a p h (p.col ∷ os) n token rest)
    ≡ calm false a (here rest (p.index + n + 1) p.line (p.col + n + 1)) (h ++ (at (mark_of p) t.Key ∷ at (mark_of p) token ∷ []) ++ at m t.Value ∷ []) (p.col ∷ os)
further-key a p h os n token rest =
    let scalar : Token = at (mark_of p) token in
    let level : nat_lt p.col p.col ≡ false = grind (arith, nat_tests) in
    rw (insert-at h (scalar ∷ []) (at (mark_of p) t.Key), level) refl

-- a `:` may stand right after a quoted scalar
abbrev pub adjacent_behind : w.Scalar → ℕ → ℕ → ℕ
adjacent_behind (w.bare x) a i = a
adjacent_behind (w.quote x) a i = i

-- a text in quotes is fetched, where a key may be possible
quote-fetched : (b : Bool) (s : State) (x : w.Letters) → rule.are_letters x ≡ true → (tail : List ℕ) (i l j : ℕ) (h : List Token) (columns os : List ℕ)
    (is : Settles b s (here (laid.spelled (w.quote x) ++ tail) i l j) h columns) → kept (Some j) columns ≡ os
    → let p = here (laid.spelled (w.quote x) ++ tail) i l j in
    let n = length (laid.spelled (w.quote x)) in
    fetched s ≡ Some (outside (key_of b p (h ++ ends (mark_of p) (Some j) columns)) (i + n) (here tail (i + n) l (j + n))
    (h ++ ends (mark_of p) (Some j) columns ++ at (mark_of p) (scalar_token (w.quote x)) ∷ []) os)
quote-fetched b s x are tail i l j h columns os is same =
    let p : Place = here (laid.spelled (w.quote x) ++ tail) i l j in
    let before : List Token = h ++ ends (mark_of p) (Some j) columns in
    let kinds : TokenKind → Option State = λ q. left_by (kind_step q (calm b is.adjacent p before (kept (Some j) columns))) in
    let opened : List ℕ → Option State = λ o. left_by (kind_step k.DoubleQuoted (calm b is.adjacent p before o)) in
    step-at b s p h columns is ∙ ap kinds (quote-kind false is.adjacent (laid.letters_text x ++ tail) i l j) ∙ ap opened same
    ∙ read-quote b is.adjacent p before os (read_letters x tail i l j) (letters-whole x are tail i l j)

read-plain : (b : Bool) (a : ℕ) (p : Place) (h : List Token) (os : List ℕ) (r : Plain) → plain_from (innermost os) false p ≡ Some r
    → left_by (kind_step k.Plain (calm b a p h os)) ≡ Some (standing r.is_broken (key_of b p h) a r.place (h ++ at (mark_of p) (t.Scalar style.Plain r.text) ∷ []) os)
read-plain true a p h os r is = rw is refl
read-plain false a p h os r is = rw is refl

-- a bare text before a colon is fetched
word-fetched : (s : State) (u rest : List ℕ) (i l j : ℕ) (h : List Token) (columns os : List ℕ) (is : Settles true s (here (u ++ (58 ∷ rest)) i l j) h columns)
    → is_bare u ≡ true → kept (Some j) columns ≡ os → is_blank_or_end (slice_index rest 0) ≡ true
    → let p = here (u ++ (58 ∷ rest)) i l j in
    fetched s ≡ Some (key_state is.adjacent p (h ++ ends (mark_of p) (Some j) columns) os (length u) (t.Scalar style.Plain u) rest)
word-fetched s [] rest i l j h columns os is word same blank = absurd (cc)
word-fetched s (c ∷ w) rest i l j h columns os is word same blank =
    let two = and_parts (is_start c w) (is_tail false w) word in
    let start = starts c w two.0 in
    let tail : List ℕ = w ++ (58 ∷ rest) in
    let p : Place = here (c ∷ tail) i l j in
    let before : List Token = h ++ ends (mark_of p) (Some j) columns in
    let some : Plain → Option Plain = λ q. Some q in
    let read : plain_from (innermost os) false p ≡ Some (with_at (c ∷ w) rest (i + suc (length w)) l (j + suc (length w))) =
    plain_from-letter c tail (innermost os) i l j start.blank start.line_feed ∙ plain-text w [] false (λ x. refl) two.1 os (58 ∷ rest) (i + 1) l (j + 1) (c ∷ [])
    ∙ plain-colon (innermost os) rest (i + 1 + length w) l (j + 1 + length w) (c ∷ w) blank ∙ ap some (key-place i j (c ∷ w) rest w l) in
    let kinds : TokenKind → Option State = λ q. left_by (kind_step q (calm true is.adjacent p before (kept (Some j) columns))) in
    let opened : List ℕ → Option State = λ o. left_by (kind_step k.Plain (calm true is.adjacent p before o)) in
    step-at true s p h columns is ∙ ap kinds (start.kind false is.adjacent (58 ∷ rest) i l j) ∙ ap opened same
    ∙ read-plain true is.adjacent p before os (with_at (c ∷ w) rest (i + suc (length w)) l (j + suc (length w))) read

pub key-fetched : (s : State) (v : w.Scalar) (rest : List ℕ) (i l j : ℕ) (h : List Token) (columns os : List ℕ) (is : Settles true s (here (laid.spelled v ++ (58 ∷ rest)) i l j) h columns)
    → rule.is_scalar v ≡ true → kept (Some j) columns ≡ os → is_blank_or_end (slice_index rest 0) ≡ true
    → let p = here (laid.spelled v ++ (58 ∷ rest)) i l j in
    fetched s
    ≡ Some (key_state (adjacent_behind v is.adjacent (i + length (laid.spelled v))) p (h ++ ends (mark_of p) (Some j) columns) os (length (laid.spelled v)) (scalar_token v) rest)
key-fetched s (w.bare x) rest i l j h columns os is word same blank = word-fetched s x rest i l j h columns os is word same blank
key-fetched s (w.quote x) rest i l j h columns os is word same blank = quote-fetched true s x word (58 ∷ rest) i l j h columns os is same

-- a piece that ends its line is fetched
pub record LeafStep (s : State) (before toks : List TokenType) (c : Option ℕ) (os cs : List ℕ) : Type 0 where
  pub to : State
  pub steps : Steps s to
  pub held : List Token
  pub arrived : Arrived c to held os cs
  pub given : map type_of held ≡ before ++ toks

more-types : (h z : List Token) (a : Token) → z ≡ [] → map type_of (h ++ z ++ a ∷ []) ≡ map type_of h ++ type_of a ∷ []
more-types h z a gone = rw (gone, append-nil h, map-append) refl

more-two : (h z : List Token) (a b : Token) → z ≡ [] → map type_of (h ++ z ++ a ∷ [] ++ b ∷ []) ≡ map type_of h ++ (type_of a ∷ type_of b ∷ [])
more-two h z a b gone = rw (gone, append-nil h) (simp (map-append, append_assoc))

pub leaf : (v : w.Leaf) (col : ℕ) (e : rule.Position) → rule.IsLeaf e v → (b : Bool) (j : ℕ) (os : List ℕ) → is_deeper j os ≡ true → is_deeper (col + 1 + 1) os ≡ true
    → (c : Option ℕ) (m : ℕ) (cs : List ℕ) → Follows c m cs → Ends e c → is_right_of c (col + 1 + 1) ≡ true → stops_at (slice_index cs 0) ≡ false → EndsWord os m cs → (s : State) (i l : ℕ) (h : List Token) → Settles b s (here (laid.leaf_onto col v (blanks m ++ cs)) i l j) h os
    → LeafStep s (map type_of h) (leaf_tokens v) c os cs
leaf (w.word (w.bare []) r) col e is b j os deep under c m cs follows fits near stop end s i l h stands = absurd (let f : false ≡ true = is.0 in cc)
leaf (w.word (w.bare (x ∷ u)) r) col e is b j os deep under c m cs follows fits near stop end s i l h stands =
    let two = and_parts (is_start x u) (is_tail false u) is.0 in
    let start = starts x u two.0 in
    let further : List ℕ = laid.rest_onto r (blanks m ++ cs) in
    let p : Place = here (x ∷ (u ++ further)) i l j in
    let before : List Token = h ++ ends (mark_of p) (Some j) os in
    let at_rest = rest-read r e is.1 c m cs follows fits stop os end (x ∷ u) (i + 1 + length u) l (j + 1 + length u) in
    let got : Plain = record { text = x ∷ u; is_broken = at_rest.broken; place = at_rest.place } in
    let read : plain_from (innermost os) false p ≡ Some got =
    plain_from-letter x (u ++ further) (innermost os) i l j start.blank start.line_feed ∙ plain-text u [] false (λ y. refl) two.1 os further (i + 1) l (j + 1) (x ∷ []) ∙ at_rest.reads in
    let kinds : TokenKind → Option State = λ q. left_by (kind_step q (calm b stands.adjacent p before (kept (Some j) os))) in
    let opened : List ℕ → Option State = λ o. left_by (kind_step k.Plain (calm b stands.adjacent p before o)) in
    let held : List Token = before ++ at (mark_of p) (t.Scalar style.Plain (x ∷ u)) ∷ [] in
    let to : State = standing at_rest.broken (key_of b p before) stands.adjacent at_rest.place held os in
    let goes : fetched s ≡ Some to =
    step-at b s p h os stands ∙ ap kinds (start.kind false stands.adjacent further i l j) ∙ ap opened (kept-deeper j os deep)
    ∙ read-plain b stands.adjacent p before os got read in
    record {
      to = to;
      steps = one_more s to to stands.ended goes (none_more to);
      held = held;
      arrived = at_rest.arrived b p before stands.adjacent held refl;
      given = more-types h (ends (mark_of p) (Some j) os) (at (mark_of p) (t.Scalar style.Plain (x ∷ u))) (ends-deeper (mark_of p) j os deep);
    }
leaf (w.word (w.quote x) r) col e is b j os deep under c m cs follows fits near stop end s i l h stands =
    let further : List ℕ = laid.rest_onto r (blanks m ++ cs) in
    let p : Place = here (laid.spelled (w.quote x) ++ further) i l j in
    let before : List Token = h ++ ends (mark_of p) (Some j) os in
    let n : ℕ = length (laid.spelled (w.quote x)) in
    let held : List Token = before ++ at (mark_of p) (scalar_token (w.quote x)) ∷ [] in
    let to : State = outside (key_of b p before) (i + n) (here further (i + n) l (j + n)) held os in
    record {
      to = to;
      steps = one_more s to to stands.ended (quote-fetched b s x is.0 further i l j h os os stands (kept-deeper j os deep)) (none_more to);
      held = held;
      arrived = rest-arrives r e is.1 c m cs follows fits stop os end b p before (i + n) (i + n) (j + n) held;
      given = more-types h (ends (mark_of p) (Some j) os) (at (mark_of p) (scalar_token (w.quote x))) (ends-deeper (mark_of p) j os deep);
    }
leaf (w.empty q r) col e is b j os deep under c m cs follows fits near stop end s i l h stands =
    let a : ℕ = stands.adjacent in
    let further : List ℕ = laid.rest_onto r (blanks m ++ cs) in
    let p : Place = here (open_sign q ∷ close_sign q ∷ further) i l j in
    let z : Place = here (close_sign q ∷ further) (i + 1) l (j + 1) in
    let before : List Token = h ++ ends (mark_of p) (Some j) os in
    let one : State = inside (key_of b p before) a z (before ++ at (mark_of p) (open_token q) ∷ []) os in
    let held : List Token = before ++ at (mark_of p) (open_token q) ∷ [] ++ at (mark_of z) (close_token q) ∷ [] in
    let two : State = outside (key_of b p before) a (here further (i + 1 + 1) l (j + 1 + 1)) held os in
    let kinds : TokenKind → Option State = λ x. left_by (kind_step x (calm b a p before (kept (Some j) os))) in
    let open_with : List ℕ → Option State = λ o. left_by (kind_step (open_kind q) (calm b a p before o)) in
    let first : fetched s ≡ Some one =
    step-at b s p h os stands ∙ ap kinds (opened-kind q false a (close_sign q ∷ further) i l j) ∙ ap open_with (kept-deeper j os deep)
    ∙ opened-is q b a (close_sign q ∷ further) i l j before os in
    let second : fetched one ≡ Some two =
    step-close q (key_of b p before) a further (i + 1) l (j + 1) (before ++ at (mark_of p) (open_token q) ∷ []) os (still-fresh b p before (j + 1)) (in-time b p before) in
    record {
      to = two;
      steps = one_more s one two stands.ended first (one_more one two two refl second (none_more two));
      held = held;
      arrived = rest-arrives r e is c m cs follows fits stop os end b p before a (i + 1 + 1) (j + 1 + 1) held;
      given = more-two h (ends (mark_of p) (Some j) os) (at (mark_of p) (open_token q)) (at (mark_of z) (close_token q)) (ends-deeper (mark_of p) j os deep);
    }
leaf (w.block u count more) col e is b j os deep under c m cs follows fits near stop end s i l h stands =
    let n : ℕ = col + 1 + 1 in
    let further : List ℕ = 10 ∷ (blanks n ++ (shifted n u ++ (10 ∷ line_ends (empty_lines more count)))) in
    let text : List ℕ = u ++ line_ends count in
    let p : Place = here (block_at n u count more ++ (blanks m ++ cs)) i l j in
    let before : List Token = h ++ ends (mark_of p) (Some j) os in
    let some : 1 ≤ n = omega arith in
    let read = read-block count more os n m u cs under some is (follows-below c m n cs follows stop near) i l j in
    let past : l + 1 ≤ read.line = read.later in
    let later : nat_lt l read.line ≡ true = grind (arith, nat_tests) in
    let r = step-block b s count further text cs i l j m read.index read.line read.mark h os os stands (kept-deeper j os deep) read.is stop later in
    let held : List Token = before ++ at read.mark (t.Scalar style.Literal text) ∷ [] in
    record {
      to = r.to;
      steps = one_more s r.to r.to stands.ended r.fetches (none_more r.to);
      held = held;
      arrived = block-arrived c m cs follows r.to held os read.index read.line r.settles;
      given = more-types h (ends (mark_of p) (Some j) os) (at read.mark (t.Scalar style.Literal text)) (ends-deeper (mark_of p) j os deep);
    }

-- a leaf closes no block
pub leaf-goes : (s : State) (before toks : List TokenType) (c : Option ℕ) (os cs : List ℕ) → LeafStep s before toks c os cs → Goes s before toks c os cs
leaf-goes s before toks c os cs on =
    let after : List TokenType → List TokenType = λ x. x ++ closing c os in
    record {
      to = on.to;
      steps = on.steps;
      index = on.arrived.index;
      line = on.arrived.line;
      held = on.held;
      columns = os;
      arrives = on.arrived.arrives;
      kept = refl;
      given = ap after on.given;
    }
