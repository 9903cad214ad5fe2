-- The form of every plain tree can be printed, and has the tree's lines and tokens.
use Rattle.snap_parse_laws.proofs.Prelude.{◌≡◌, ◌<◌, ℕ, ℤ, pos, negsuc, zero, suc, ◌/◌, ◌%◌, List, [], ◌∷◌, ◌++◌, map, Bool, true, false, not, refl, ap, ◌∙◌, arith, sym, append-nil, length, Some, None, Option, nat_lt, nat_tests, ◌||◌, ◌&&◌, ◌==◌, nat_le, if◌then◌else◌, digits_onto, digit_glyph, signed_decimal, decimal, list_any, list_all, spell_bool, spell_text, spelling, is_flat, is_digit, TokenType, text_scalar, entry_of, scalar_of, form_of, forms_of, entries_of, node_tokens, item_tokens, or_parts, and_parts, not_true, child_of, Blocks, before_more, before_items, before_entries, core, kept_ends, as_block}
use Rattle.std.specs.Char.{is_whitespace}
use Rattle.std.specs.Fmt.{digits}
use Rattle.std.proofs.lemmas.Bool.{eqb-true}
use Rattle.snap_content.specs.Plain.{Plain, null, bool, int, text, list, dict, Plains, no_items, item, Entries, no_entries, entry}
use Rattle.snap_content.specs.Quotes.{is_special, is_leading, starts_badly, ends_badly, starts_as_hexadecimal, is_reserved, needs_quotes}
use Rattle.snap_content.specs.Numbers.{is_number_text}
use Rattle.snap_print.specs.Blocks.{off, inside, end, last, before_core, counted, begins_block, is_unheld, fits_block, keeps_end, is_block}
use Rattle.snap_print.specs.Lines.{indented, behind, marked, keyed, entry_block, lines_of, item_lines, entry_lines}
use Rattle.snap_scan_tokens.specs.declared.token.TokenType.TheVariants as kind
use Rattle.snap_scan_tokens.specs.declared.token.TScalarStyle.TheVariants as style
use Rattle.snap_parse_laws.specs.FormLines as g
use Rattle.snap_parse_laws.specs.Forms as form
use Rattle.snap_parse_laws.specs.Tokens.{entry_tokens, child_tokens}
use Rattle.snap_parse_laws.proofs.Escapes.{apart, other}

six : (a b d e f g : Bool) → a ≡ false → b ≡ false → d ≡ false → e ≡ false → f ≡ false → g ≡ false → not (a || b || (d || e) || f || g) ≡ true
six a b d e f g p q r s t u = rw (p, q, r, s, t, u) refl

word-character : (c : ℕ) → is_special c ≡ false → (c == 32) ≡ false → form.is_word_character c ≡ true
word-character c plain blank =
    let tab = other is_special 9 c refl plain in
    let line = other is_special 10 c refl plain in
    let return = other is_special 13 c refl plain in
    let nul = other is_special 0 c refl plain in
    let colon = other is_special 58 c refl plain in
    let hash = other is_special 35 c refl plain in
    rw (blank, tab, line, return, nul, colon, hash) refl

signs-word : (signs dot word : Bool) → signs ≡ false → dot ≡ false → word ≡ true → not (signs || dot) && word ≡ true
signs-word signs dot word p q r = rw (p, q, r) refl

word-start : (c : ℕ) → is_special c ≡ false → is_leading c ≡ false → form.is_word_start c ≡ true
word-start c plain leads =
    let blank = other is_leading 32 c refl leads in
    let word = word-character c plain blank in
    let dot = other is_leading 46 c refl leads in
    let signs : form.is_sign c ≡ false =
    rw (
      other is_special 91 c refl plain,
      other is_special 93 c refl plain,
      other is_special 123 c refl plain,
      other is_special 125 c refl plain,
      other is_special 44 c refl plain,
      other is_leading 45 c refl leads,
      other is_leading 63 c refl leads,
      other is_leading 42 c refl leads,
      other is_leading 38 c refl leads,
      other is_leading 33 c refl leads,
      other is_leading 124 c refl leads,
      other is_leading 62 c refl leads,
      other is_special 39 c refl plain,
      other is_special 34 c refl plain,
      other is_leading 37 c refl leads,
      other is_leading 64 c refl leads,
      other is_special 96 c refl plain,
    ) refl in
    signs-word (form.is_sign c) (c == 46) (form.is_word_character c) signs dot word

either-way : (q w x y : Bool) → x ≡ true → (q ≡ false → w ≡ true) → y ≡ true → (if q then x else w && y) ≡ true
either-way true w x y p f r = p
either-way false w x y p f r = rw (f refl, r) refl

no-blank : (q w x y : Bool) → q ≡ false → w ≡ true → y ≡ true → (if q then x else w && y) ≡ true
no-blank q w x y e f h = rw (e, f, h) refl

-- what goes on in a text that needs no quotes
goes-on : (cs : List ℕ) (b : Bool) → list_any is_special cs ≡ false → ends_badly cs ≡ false → (cs ≡ [] → b ≡ false) → form.is_tail b cs ≡ true
goes-on [] b plain ends still = rw (still refl) refl
goes-on (c ∷ []) b plain ends still =
    let blank : (c == 32) ≡ false = other is_whitespace 32 c refl ends in
    no-blank (c == 32) (form.is_word_character c) (form.is_tail true []) (form.is_tail false []) blank (word-character c (or_parts (is_special c) false plain).0 blank) refl
goes-on (c ∷ d ∷ cs) b plain ends still =
    let two = or_parts (is_special c) (list_any is_special (d ∷ cs)) plain in
    either-way (c == 32) (form.is_word_character c) (form.is_tail true (d ∷ cs)) (form.is_tail false (d ∷ cs)) (goes-on (d ∷ cs) true two.1 ends (λ h. absurd (cc)))
    (word-character c two.0) (goes-on (d ∷ cs) false two.1 ends (λ h. refl))

starts-goes : (c : ℕ) (cs : List ℕ) → form.is_word_start c ≡ true → form.is_tail false cs ≡ true → form.is_bare (c ∷ cs) ≡ true
starts-goes c cs e f = rw (e, f) refl

-- a text that needs no quotes can stand as it is
pub bare-text : (s : List ℕ) → needs_quotes s ≡ false → form.is_bare s ≡ true
bare-text [] h = absurd (cc)
bare-text (c ∷ []) h =
    let u : List ℕ = c ∷ [] in
    let f = or_parts (starts_badly u || ends_badly u || starts_as_hexadecimal u || list_any is_special u || is_reserved u) (is_number_text u) h in
    let e = or_parts (starts_badly u || ends_badly u || starts_as_hexadecimal u || list_any is_special u) (is_reserved u) f.0 in
    let d = or_parts (starts_badly u || ends_badly u || starts_as_hexadecimal u) (list_any is_special u) e.0 in
    let b = or_parts (starts_badly u || ends_badly u) (starts_as_hexadecimal u) d.0 in
    let a = or_parts (starts_badly u) (ends_badly u) b.0 in
    starts-goes c [] (word-start c (or_parts (is_special c) false d.1).0 a.0) refl
bare-text (c ∷ x ∷ cs) h =
    let u : List ℕ = c ∷ x ∷ cs in
    let f = or_parts (starts_badly u || ends_badly u || starts_as_hexadecimal u || list_any is_special u || is_reserved u) (is_number_text u) h in
    let e = or_parts (starts_badly u || ends_badly u || starts_as_hexadecimal u || list_any is_special u) (is_reserved u) f.0 in
    let d = or_parts (starts_badly u || ends_badly u || starts_as_hexadecimal u) (list_any is_special u) e.0 in
    let b = or_parts (starts_badly u || ends_badly u) (starts_as_hexadecimal u) d.0 in
    let a = or_parts (starts_badly u) (ends_badly u) b.0 in
    let two = or_parts (is_special c) (list_any is_special (x ∷ cs)) d.1 in
    starts-goes c (x ∷ cs) (word-start c two.0 a.0) (goes-on (x ∷ cs) false two.1 a.1 (λ h. refl))

-- a text of digits, at least one
pub record AreDigits (ds : List ℕ) : Type 0 where
  pub first : ℕ
  pub rest : List ℕ
  pub is : ds ≡ first ∷ rest
  pub digit : is_digit first ≡ true
  pub digits : list_all is_digit rest ≡ true

glyph-digit : (d : ℕ) → d < 10 → is_digit (digit_glyph false d) ≡ true
glyph-digit d small = let e : nat_lt d 10 ≡ true = grind (arith, nat_tests) in rw e (grind (arith, nat_tests))

if-digits : (b : Bool) (xs ys : List ℕ) → AreDigits xs → AreDigits ys → AreDigits (if b then xs else ys)
if-digits true xs ys x y = x
if-digits false xs ys x y = y

digits-more : (d : ℕ) (ds : List ℕ) → is_digit d ≡ true → list_all is_digit ds ≡ true → list_all is_digit (d ∷ ds) ≡ true
digits-more d ds e f = rw (e, f) refl

onto : (k n : ℕ) (acc : List ℕ) → list_all is_digit acc ≡ true → AreDigits (digits_onto (suc k) 10 false n acc)
onto zero n acc h =
    let here : AreDigits (digit_glyph false (n % 10) ∷ acc) = record { first = digit_glyph false (n % 10); rest = acc; is = refl; digit = glyph-digit (n % 10) (omega arith); digits = h } in
    if-digits (n / 10 == 0) _ _ here here
onto (suc k) n acc h =
    let d : is_digit (digit_glyph false (n % 10)) ≡ true = glyph-digit (n % 10) (omega arith) in
    let here : AreDigits (digit_glyph false (n % 10) ∷ acc) = record { first = digit_glyph false (n % 10); rest = acc; is = refl; digit = d; digits = h } in
    if-digits (n / 10 == 0) _ _ here (onto k (n / 10) (digit_glyph false (n % 10) ∷ acc) (digits-more (digit_glyph false (n % 10)) acc d h))

pub decimal-digits : (n : ℕ) → AreDigits (decimal n)
unfolding digits
decimal-digits n = onto 63 n [] refl

digit-character : (d : ℕ) → is_digit d ≡ true → form.is_word_character d ≡ true
digit-character d h =
    rw (apart is_digit 32 d refl h, apart is_digit 9 d refl h, apart is_digit 10 d refl h, apart is_digit 13 d refl h, apart is_digit 0 d refl h, apart is_digit 58 d refl h, apart is_digit 35 d refl h) refl

digit-start : (d : ℕ) → is_digit d ≡ true → form.is_word_start d ≡ true
digit-start d h =
    let signs : form.is_sign d ≡ false =
    rw (
      apart is_digit 91 d refl h,
      apart is_digit 93 d refl h,
      apart is_digit 123 d refl h,
      apart is_digit 125 d refl h,
      apart is_digit 44 d refl h,
      apart is_digit 45 d refl h,
      apart is_digit 63 d refl h,
      apart is_digit 42 d refl h,
      apart is_digit 38 d refl h,
      apart is_digit 33 d refl h,
      apart is_digit 124 d refl h,
      apart is_digit 62 d refl h,
      apart is_digit 39 d refl h,
      apart is_digit 34 d refl h,
      apart is_digit 37 d refl h,
      apart is_digit 64 d refl h,
      apart is_digit 96 d refl h,
    ) refl in
    signs-word (form.is_sign d) (d == 46) (form.is_word_character d) signs (apart is_digit 46 d refl h) (digit-character d h)

digits-tail : (ds : List ℕ) → list_all is_digit ds ≡ true → form.is_tail false ds ≡ true
digits-tail [] h = refl
digits-tail (d ∷ ds) h =
    let two = and_parts (is_digit d) (list_all is_digit ds) h in
    no-blank (d == 32) (form.is_word_character d) (form.is_tail true ds) (form.is_tail false ds) (apart is_digit 32 d refl two.0) (digit-character d two.0) (digits-tail ds two.1)

bare-digits : (ds : List ℕ) → AreDigits ds → form.is_bare ds ≡ true
bare-digits ds are = rw are.is (starts-goes are.first are.rest (digit-start are.first are.digit) (digits-tail are.rest are.digits))

negative-goes : (d : ℕ) (ds : List ℕ) → form.is_behind 45 d ≡ true → form.is_tail false (d ∷ ds) ≡ true → form.is_bare (45 ∷ d ∷ ds) ≡ true
negative-goes d ds e f = rw (e, f) refl

bare-negative : (ds : List ℕ) → AreDigits ds → form.is_bare (45 ∷ ds) ≡ true
bare-negative ds are =
    let tail : form.is_tail false (are.first ∷ are.rest) ≡ true = digits-tail (are.first ∷ are.rest) (digits-more are.first are.rest are.digit are.digits) in
    let behind : form.is_behind 45 are.first ≡ true = rw (digit-character are.first are.digit, apart is_digit 45 are.first refl are.digit) refl in
    rw are.is (negative-goes are.first are.rest behind tail)

pub bare-int : (z : ℤ) → form.is_bare (signed_decimal z) ≡ true
bare-int (pos n) = bare-digits (decimal n) (decimal-digits n)
bare-int (negsuc n) = bare-negative (decimal (suc n)) (decimal-digits (suc n))

pub bare-bool : (b : Bool) → form.is_bare (spell_bool b) ≡ true
bare-bool true = refl
bare-bool false = refl

scalar-if : (b : Bool) (s : List ℕ) → (b ≡ false → form.is_bare s ≡ true) → form.is_scalar (if b then form.quote s else form.bare s) ≡ true
scalar-if true s h = refl
scalar-if false s h = h refl

text-ok : (s : List ℕ) → form.is_scalar (text_scalar s) ≡ true
text-ok s = scalar-if (needs_quotes s) s (bare-text s)

abbrev AnyScalar : Option form.Scalar → Type 0
AnyScalar None = Unit {0}
AnyScalar (Some s) = form.is_scalar s ≡ true

scalar-ok : (p : Plain) → AnyScalar (scalar_of p)
scalar-ok null = refl
scalar-ok (bool b) = bare-bool b
scalar-ok (int z) = bare-int z
scalar-ok (text s) = text-ok s
scalar-ok (list ps) = tt
scalar-ok (dict es) = tt

entry-if : (b : Bool) (s : form.Scalar) (q v : form.Form) → form.is_scalar s ≡ true → nat_le (length (form.spelled s)) 1024 ≡ b → form.IsPrintable q → form.IsPrintable v → form.IsNode q
    → form.IsEntry (if b then form.simple s v else form.complex q v)
entry-if true s q v is e x y n = (rw (is, e) refl, y)
entry-if false s q v is e x y n = (x, y, n)

entry-ok : (o : Option form.Scalar) (q v : form.Form) → AnyScalar o → form.IsPrintable q → form.IsPrintable v → form.IsNode q → form.IsEntry (entry_of o q v)
entry-ok None q v is x y n = (x, y, n)
entry-ok (Some s) q v is x y n = entry-if (nat_le (length (form.spelled s)) 1024) s q v is refl x y n

-- a plain tree by itself is no block
pub no-block : (w : Blocks) (p : Plain) → form.IsNode (form_of w p)
no-block w null = tt
no-block w (bool b) = tt
no-block w (int z) = tt
no-block w (text s) = tt
no-block w (list no_items) = tt
no-block w (list (item p ps)) = tt
no-block w (dict no_entries) = tt
no-block w (dict (entry k v es)) = tt

-- the text of a block without the line ends at its end
abbrev TailOf : ℕ → Bool → List ℕ → Type 0
TailOf c b x = (before_core c x ≡ [] → b ≡ false) → form.is_block_tail b (before_core c x) ≡ true

core-tail-one : (q : Bool) (c : ℕ) (b : Bool) → (c == 10) ≡ q → (c == 13 || c == 0) ≡ false → TailOf c b []
core-tail-one true c b e held = rw e (λ still. rw (still refl) refl)
core-tail-one false c b e held = rw e (λ still. rw (held, e) refl)

core-tail-by : (x : List ℕ) (c : ℕ) (b : Bool) → (c == 13 || c == 0) ≡ false → ((x ≡ [] → (c == 10) ≡ false) → form.is_block_tail (c == 10) x ≡ true) → TailOf c b x
core-tail-by [] c b held onward = core-tail-one (c == 10) c b refl held
core-tail-by (d ∷ ds) c b held onward = λ still. let on : form.is_block_tail (c == 10) (d ∷ ds) ≡ true = onward (λ e. absurd (cc)) in rw held on

core-tail : (cs : List ℕ) (b : Bool) → list_any is_unheld cs ≡ false → (core cs ≡ [] → b ≡ false) → form.is_block_tail b (core cs) ≡ true
core-tail [] b held still = rw (still refl) refl
core-tail (c ∷ cs) b held still =
    let two = or_parts (is_unheld c) (list_any is_unheld cs) held in
    core-tail-by (core cs) c b two.0 (λ alone. core-tail cs (c == 10) two.1 alone) still

core-first : (c : ℕ) (x : List ℕ) → (c == 10) ≡ false → before_core c x ≡ c ∷ x
core-first c [] feed = rw feed refl
core-first c (d ∷ ds) feed = refl

begin-block : (b a n r z : Bool) (tail : Bool) → b ≡ false → a ≡ false → n ≡ false → r ≡ false → z ≡ false → tail ≡ true → not (b || a || (n || r) || z) && tail ≡ true
begin-block b a n r z tail p q s t u v = rw (p, q, s, t, u, v) refl

fits-core : (s : List ℕ) → fits_block s ≡ true → form.is_block (core s) ≡ true
fits-core [] h = absurd (cc)
fits-core (c ∷ cs) h =
    let two = and_parts (list_any (λ x. x == 10) (c ∷ cs) && begins_block (c ∷ cs)) (not (list_any is_unheld (c ∷ cs))) h in
    let begun = and_parts (list_any (λ x. x == 10) (c ∷ cs)) (begins_block (c ∷ cs)) two.0 in
    let first = or_parts (c == 32 || c == 9) (c == 10 || c == 13) (not_true (c == 32 || c == 9 || (c == 10 || c == 13)) begun.1) in
    let blank = or_parts (c == 32) (c == 9) first.0 in
    let broken = or_parts (c == 10) (c == 13) first.1 in
    let held = or_parts (is_unheld c) (list_any is_unheld cs) (not_true (list_any is_unheld (c ∷ cs)) two.1) in
    let nul = or_parts (c == 13) (c == 0) held.0 in
    let tail = core-tail cs false held.1 (λ e. refl) in
    rw (core-first c (core cs) broken.0) (begin-block (c == 32) (c == 9) (c == 10) (c == 13) (c == 0) (form.is_block_tail false (core cs)) blank.0 blank.1 broken.0 broken.1 nul.1 tail)

is-fit : (w : Blocks) (s : List ℕ) → is_block w s ≡ true → fits_block s ≡ true
is-fit off s h = absurd (cc)
is-fit inside s h = h
is-fit end s h = h
is-fit last s h = (and_parts (fits_block s) (keeps_end s) h).0

child-ok : (w : Blocks) (o : Option (List ℕ)) (t : form.Form) → ((s : List ℕ) → o ≡ Some s → is_block w s ≡ true) → form.IsPrintable t → form.IsPrintable (child_of w o t)
child-ok w None t is x = x
child-ok w (Some s) t is x = fits-core s (is-fit w s (is s refl))

some-if : (b : Bool) (s t : List ℕ) → (if b then Some s else None) ≡ Some t → (b ≡ true) × (s ≡ t)
some-if true s t e = (refl, cc)
some-if false s t e = absurd (cc)

block-is : (w : Blocks) (p : Plain) (s : List ℕ) → as_block w p ≡ Some s → is_block w s ≡ true
block-is w null s e = absurd (cc)
block-is w (bool b) s e = absurd (cc)
block-is w (int z) s e = absurd (cc)
block-is w (text u) s e = let two = some-if (is_block w u) u s e in rw (sym two.1) two.0
block-is w (list ps) s e = absurd (cc)
block-is w (dict es) s e = absurd (cc)

abbrev child_form : Blocks → Plain → form.Form
child_form w p = child_of w (as_block w p) (form_of w p)

child-printable : (w : Blocks) (p : Plain) → form.IsPrintable (form_of w p) → form.IsPrintable (child_of w (as_block w p) (form_of w p))
child-printable w p is = child-ok w (as_block w p) (form_of w p) (block-is w p) is

entry-printable : (u w : Blocks) (k v : Plain) → form.IsPrintable (form_of u k) → form.IsPrintable (form_of w v) → form.IsEntry (entry_of (scalar_of k) (form_of u k) (child_of w (as_block w v) (form_of w v)))
entry-printable u w k v x y = entry-ok (scalar_of k) (form_of u k) (child_form w v) (scalar-ok k) x (child-printable w v y) (no-block u k)

mutual
  pub printable : (w : Blocks) (p : Plain) → form.IsPrintable (form_of w p)
  printable w null = refl
  printable w (bool b) = bare-bool b
  printable w (int z) = bare-int z
  printable w (text s) = text-ok s
  printable w (list no_items) = tt
  printable w (list (item p ps)) = items-printable w (child_form (before_items w ps) p) (child-printable (before_items w ps) p (printable (before_items w ps) p)) ps
  printable w (dict no_entries) = tt
  printable w (dict (entry k v es)) =
      entries-printable w (entry_of (scalar_of k) (form_of (before_more w) k) (child_form (before_entries w es) v)) (entry-printable (before_more w) (before_entries w es) k v (printable (before_more w) k) (printable (before_entries w es) v)) es

  items-printable : (w : Blocks) (first : form.Form) → form.IsPrintable first → (ps : Plains) → form.ArePrintable (forms_of w first ps)
  items-printable w first is no_items = is
  items-printable w first is (item p ps) = (is, items-printable w (child_form (before_items w ps) p) (child-printable (before_items w ps) p (printable (before_items w ps) p)) ps)

  entries-printable : (w : Blocks) (first : form.Entry) → form.IsEntry first → (es : Entries) → form.AreEntries (entries_of w first es)
  entries-printable w first is no_entries = is
  entries-printable w first is (entry k v es) =
      (is, entries-printable w (entry_of (scalar_of k) (form_of (before_more w) k) (child_form (before_entries w es) v)) (entry-printable (before_more w) (before_entries w es) k v (printable (before_more w) k) (printable (before_entries w es) v)) es)

spelled-if : (b : Bool) (s x : List ℕ) → x ≡ form.spelled (form.quote s) → (if b then x else s) ≡ form.spelled (if b then form.quote s else form.bare s)
spelled-if true s x e = e
spelled-if false s x e = refl

spelled-text : (s : List ℕ) → spell_text s ≡ form.spelled (text_scalar s)
spelled-text s = spelled-if (needs_quotes s) s (form.spelled (form.quote s)) refl

-- lines of a value after a key, where it is no block
flat-block : (w : Blocks) (v : Plain) (key : List ℕ)
    → (if is_flat v then (key ++ 58 ∷ 32 ∷ spelling v) ∷ [] else (key ++ 58 ∷ []) ∷ map indented (g.lines_of (form_of w v)))
    ≡ g.key_block key (form_of w v) (g.lines_of (form_of w v))
flat-block w null key = refl
flat-block w (bool b) key = refl
flat-block w (int z) key = refl
flat-block w (text s) key = let line : List ℕ → List (List ℕ) = λ x. (key ++ 58 ∷ 32 ∷ x) ∷ [] in ap line (spelled-text s)
flat-block w (list no_items) key = refl
flat-block w (list (item p ps)) key = refl
flat-block w (dict no_entries) key = refl
flat-block w (dict (entry k v es)) key = refl

keyed-block : (w : Blocks) (o : Option (List ℕ)) (v : Plain) (key : List ℕ) → keyed w key v o (g.lines_of (form_of w v)) ≡ g.key_block key (child_of w o (form_of w v)) (g.lines_of (child_of w o (form_of w v)))
keyed-block w None v key = flat-block w v key
keyed-block w (Some s) v key = refl

node-mark : (mark : ℕ) (t : form.Form) (ls : List (List ℕ)) → form.IsNode t → behind mark ls ≡ g.mark_block mark t ls
node-mark mark (form.scalar s) ls node = refl
node-mark mark (form.block w count more) ls node = absurd node
node-mark mark (form.hollow q) ls node = refl
node-mark mark (form.list ts) ls node = refl
node-mark mark (form.dict es) ls node = refl

marked-block : (w : Blocks) (mark : ℕ) (o : Option (List ℕ)) (t : form.Form) → form.IsNode t → marked w mark o (g.lines_of t) ≡ g.mark_block mark (child_of w o t) (g.lines_of (child_of w o t))
marked-block w mark None t node = node-mark mark t (g.lines_of t) node
marked-block w mark (Some s) t node = refl

if-block : (b : Bool) (x y : form.Entry) (xs ys : List (List ℕ)) → xs ≡ g.entry_block x → ys ≡ g.entry_block y → (if b then xs else ys) ≡ g.entry_block (if b then x else y)
if-block true x y xs ys e f = e
if-block false x y xs ys e f = f

long-block : (u w : Blocks) (q v : Plain)
    → behind 63 (g.lines_of (form_of u q)) ++ marked w 58 (as_block w v) (g.lines_of (form_of w v)) ≡ g.entry_block (form.complex (form_of u q) (child_form w v))
long-block u w q v =
    let after : List (List ℕ) → List (List ℕ) = λ x. behind 63 (g.lines_of (form_of u q)) ++ x in
    ap after (marked-block w 58 (as_block w v) (form_of w v) (no-block w v))

simple-block : (s : form.Scalar) (u w : Blocks) (q v : Plain)
    → (if nat_le (length (form.spelled s)) 1024 then keyed w (form.spelled s) v (as_block w v) (g.lines_of (form_of w v))
    else behind 63 (g.lines_of (form_of u q)) ++ marked w 58 (as_block w v) (g.lines_of (form_of w v)))
    ≡ g.entry_block (entry_of (Some s) (form_of u q) (child_form w v))
simple-block s u w q v =
    if-block (nat_le (length (form.spelled s)) 1024) (form.simple s (child_form w v)) (form.complex (form_of u q) (child_form w v)) _ _ (keyed-block w (as_block w v) v (form.spelled s)) (long-block u w q v)

block : (u w : Blocks) (k v : Plain)
    → entry_block w k v (g.lines_of (form_of u k)) (g.lines_of (form_of w v)) ≡ g.entry_block (entry_of (scalar_of k) (form_of u k) (child_form w v))
block u w null v = simple-block (form.bare (126 ∷ [])) u w null v
block u w (bool b) v = simple-block (form.bare (spell_bool b)) u w (bool b) v
block u w (int z) v = simple-block (form.bare (signed_decimal z)) u w (int z) v
block u w (text s) v =
    let at : List ℕ → List (List ℕ) = λ key.
    (if nat_le (length key) 1024 then keyed w key v (as_block w v) (g.lines_of (form_of w v))
    else behind 63 (g.lines_of (form_of u (text s))) ++ marked w 58 (as_block w v) (g.lines_of (form_of w v))) in
    ap at (spelled-text s) ∙ simple-block (text_scalar s) u w (text s) v
block u w (list ps) v = long-block u w (list ps) v
block u w (dict es) v = long-block u w (dict es) v

same-block : (u w : Blocks) (k v : Plain) → lines_of u k ≡ g.lines_of (form_of u k) → lines_of w v ≡ g.lines_of (form_of w v)
    → entry_block w k v (lines_of u k) (lines_of w v) ≡ g.entry_block (entry_of (scalar_of k) (form_of u k) (child_form w v))
same-block u w k v e f =
    let first : List (List ℕ) → List (List ℕ) = λ x. entry_block w k v x (lines_of w v) in
    let second : List (List ℕ) → List (List ℕ) = λ x. entry_block w k v (g.lines_of (form_of u k)) x in
    ap first e ∙ ap second f ∙ block u w k v

same-child : (w : Blocks) (mark : ℕ) (p : Plain) → lines_of w p ≡ g.lines_of (form_of w p) → marked w mark (as_block w p) (lines_of w p) ≡ g.mark_block mark (child_form w p) (g.lines_of (child_form w p))
same-child w mark p e =
    let at : List (List ℕ) → List (List ℕ) = λ x. marked w mark (as_block w p) x in
    ap at e ∙ marked-block w mark (as_block w p) (form_of w p) (no-block w p)

mutual
  pub same-lines : (w : Blocks) (p : Plain) → lines_of w p ≡ g.lines_of (form_of w p)
  same-lines w null = refl
  same-lines w (bool b) = refl
  same-lines w (int z) = refl
  same-lines w (text s) = let one : List ℕ → List (List ℕ) = λ x. x ∷ [] in ap one (spelled-text s)
  same-lines w (list no_items) = refl
  same-lines w (list (item p ps)) =
      let at : List (List ℕ) → List (List ℕ) = λ x. x ++ item_lines w ps in
      ap at (same-child (before_items w ps) 45 p (same-lines (before_items w ps) p)) ∙ sym (same-items w (child_form (before_items w ps) p) ps)
  same-lines w (dict no_entries) = refl
  same-lines w (dict (entry k v es)) =
      let at : List (List ℕ) → List (List ℕ) = λ x. x ++ entry_lines w es in
      ap at (same-block (before_more w) (before_entries w es) k v (same-lines (before_more w) k) (same-lines (before_entries w es) v))
      ∙ sym (same-entries w (entry_of (scalar_of k) (form_of (before_more w) k) (child_form (before_entries w es) v)) es)

  same-items : (w : Blocks) (first : form.Form) (ps : Plains) → g.item_lines (forms_of w first ps) ≡ g.mark_block 45 first (g.lines_of first) ++ item_lines w ps
  same-items w first no_items = sym (append-nil (g.mark_block 45 first (g.lines_of first)))
  same-items w first (item p ps) =
      let at : List (List ℕ) → List (List ℕ) = λ x. g.mark_block 45 first (g.lines_of first) ++ x in
      let by : List (List ℕ) → List (List ℕ) = λ x. g.mark_block 45 first (g.lines_of first) ++ (x ++ item_lines w ps) in
      ap at (same-items w (child_form (before_items w ps) p) ps) ∙ sym (ap by (same-child (before_items w ps) 45 p (same-lines (before_items w ps) p)))

  same-entries : (w : Blocks) (first : form.Entry) (es : Entries) → g.entry_lines (entries_of w first es) ≡ g.entry_block first ++ entry_lines w es
  same-entries w first no_entries = sym (append-nil (g.entry_block first))
  same-entries w first (entry k v es) =
      let at : List (List ℕ) → List (List ℕ) = λ x. g.entry_block first ++ x in
      let by : List (List ℕ) → List (List ℕ) = λ x. g.entry_block first ++ (x ++ entry_lines w es) in
      ap at (same-entries w (entry_of (scalar_of k) (form_of (before_more w) k) (child_form (before_entries w es) v)) es)
      ∙ sym (ap by (same-block (before_more w) (before_entries w es) k v (same-lines (before_more w) k) (same-lines (before_entries w es) v)))

-- a text is its block and the line ends at its end
core-ends-one : (q : Bool) (c n : ℕ) (cs : List ℕ) → (c == 10) ≡ q → form.line_ends n ≡ cs → before_core c [] ++ form.line_ends (counted c [] n) ≡ c ∷ cs
core-ends-one true c n cs e is = rw e (let feed : c ≡ 10 = eqb-true c 10 e in rw feed (ap (λ (x : List ℕ). 10 ∷ x) is))
core-ends-one false c n cs e is = rw e (ap (λ (x : List ℕ). c ∷ x) is)

core-ends-by : (x : List ℕ) (c n : ℕ) (cs : List ℕ) → x ++ form.line_ends n ≡ cs → before_core c x ++ form.line_ends (counted c x n) ≡ c ∷ cs
core-ends-by [] c n cs is = core-ends-one (c == 10) c n cs refl is
core-ends-by (d ∷ ds) c n cs is = ap (λ (x : List ℕ). c ∷ x) is

pub core-ends : (s : List ℕ) → core s ++ form.line_ends (kept_ends s) ≡ s
core-ends [] = refl
core-ends (c ∷ cs) = core-ends-by (core cs) c (kept_ends cs) cs (core-ends cs)

token-if : (b : Bool) (s : List ℕ) → form.scalar_token (if b then form.quote s else form.bare s) ≡ (if b then kind.Scalar style.DoubleQuoted s else kind.Scalar style.Plain s)
token-if true s = refl
token-if false s = refl

entry-tokens-if : (b : Bool) (s : form.Scalar) (v : form.Form) (q : form.Form) → form.tokens_of q ≡ form.scalar_token s ∷ []
    → form.entry_tokens (if b then form.simple s v else form.complex q v) ≡ kind.Key ∷ (form.tokens_of q ++ (kind.Value ∷ form.tokens_of v))
entry-tokens-if true s v q e = rw e refl
entry-tokens-if false s v q e = refl

abbrev is_short : form.Scalar → Bool
is_short s = nat_le (length (form.spelled s)) 1024

of-entry : (u : Blocks) (q : Plain) (v : form.Form) → form.entry_tokens (entry_of (scalar_of q) (form_of u q) v) ≡ kind.Key ∷ (form.tokens_of (form_of u q) ++ (kind.Value ∷ form.tokens_of v))
of-entry u null v = entry-tokens-if (is_short (form.bare (126 ∷ []))) (form.bare (126 ∷ [])) v (form_of u null) refl
of-entry u (bool b) v = entry-tokens-if (is_short (form.bare (spell_bool b))) (form.bare (spell_bool b)) v (form_of u (bool b)) refl
of-entry u (int z) v = entry-tokens-if (is_short (form.bare (signed_decimal z))) (form.bare (signed_decimal z)) v (form_of u (int z)) refl
of-entry u (text s) v = entry-tokens-if (is_short (text_scalar s)) (text_scalar s) v (form_of u (text s)) refl
of-entry u (list ps) v = refl
of-entry u (dict es) v = refl

child-tokens-by : (w : Blocks) (o : Option (List ℕ)) (t : form.Form) (ts : List TokenType) → form.tokens_of t ≡ ts → form.tokens_of (child_of w o t) ≡ child_tokens o ts
child-tokens-by w None t ts e = e
child-tokens-by w (Some s) t ts e = let one : List ℕ → List TokenType = λ x. kind.Scalar style.Literal x ∷ [] in ap one (core-ends s)

same-child-tokens : (w : Blocks) (p : Plain) → form.tokens_of (form_of w p) ≡ node_tokens w p → form.tokens_of (child_form w p) ≡ child_tokens (as_block w p) (node_tokens w p)
same-child-tokens w p e = child-tokens-by w (as_block w p) (form_of w p) (node_tokens w p) e

entry-tokens : (u w : Blocks) (q v : Plain) → form.tokens_of (form_of u q) ≡ node_tokens u q → form.tokens_of (form_of w v) ≡ node_tokens w v
    → form.entry_tokens (entry_of (scalar_of q) (form_of u q) (child_form w v)) ≡ kind.Key ∷ (node_tokens u q ++ (kind.Value ∷ child_tokens (as_block w v) (node_tokens w v)))
entry-tokens u w q v e f =
    let first : List TokenType → List TokenType = λ x. kind.Key ∷ (x ++ (kind.Value ∷ form.tokens_of (child_form w v))) in
    let second : List TokenType → List TokenType = λ x. kind.Key ∷ (node_tokens u q ++ (kind.Value ∷ x)) in
    of-entry u q (child_form w v) ∙ ap first e ∙ ap second (same-child-tokens w v f)

mutual
  pub same-tokens : (w : Blocks) (p : Plain) → form.tokens_of (form_of w p) ≡ node_tokens w p
  same-tokens w null = refl
  same-tokens w (bool b) = refl
  same-tokens w (int z) = refl
  same-tokens w (text s) = let one : TokenType → List TokenType = λ x. x ∷ [] in ap one (token-if (needs_quotes s) s)
  same-tokens w (list no_items) = refl
  same-tokens w (list (item p ps)) =
      let at : List TokenType → List TokenType = λ x. kind.BlockSequenceStart ∷ kind.BlockEntry ∷ (x ++ kind.BlockEnd ∷ []) in
      let by : List TokenType → List TokenType = λ x. kind.BlockSequenceStart ∷ kind.BlockEntry ∷ (x ++ item_tokens w ps ++ kind.BlockEnd ∷ []) in
      ap at (same-item-tokens w (child_form (before_items w ps) p) ps) ∙ ap by (same-child-tokens (before_items w ps) p (same-tokens (before_items w ps) p))
  same-tokens w (dict no_entries) = refl
  same-tokens w (dict (entry q v es)) =
      let at : List TokenType → List TokenType = λ x. kind.BlockMappingStart ∷ (x ++ kind.BlockEnd ∷ []) in
      let by : List TokenType → List TokenType = λ x. kind.BlockMappingStart ∷ (x ++ entry_tokens w es ++ kind.BlockEnd ∷ []) in
      ap at (same-entry-tokens w (entry_of (scalar_of q) (form_of (before_more w) q) (child_form (before_entries w es) v)) es)
      ∙ ap by (entry-tokens (before_more w) (before_entries w es) q v (same-tokens (before_more w) q) (same-tokens (before_entries w es) v))

  same-item-tokens : (w : Blocks) (first : form.Form) (ps : Plains) → form.inside_tokens (forms_of w first ps) ≡ form.tokens_of first ++ item_tokens w ps
  same-item-tokens w first no_items = sym (append-nil (form.tokens_of first))
  same-item-tokens w first (item p ps) =
      let at : List TokenType → List TokenType = λ x. form.tokens_of first ++ (kind.BlockEntry ∷ x) in
      let by : List TokenType → List TokenType = λ x. form.tokens_of first ++ (kind.BlockEntry ∷ (x ++ item_tokens w ps)) in
      ap at (same-item-tokens w (child_form (before_items w ps) p) ps) ∙ ap by (same-child-tokens (before_items w ps) p (same-tokens (before_items w ps) p))

  same-entry-tokens : (w : Blocks) (first : form.Entry) (es : Entries) → form.entries_tokens (entries_of w first es) ≡ form.entry_tokens first ++ entry_tokens w es
  same-entry-tokens w first no_entries = sym (append-nil (form.entry_tokens first))
  same-entry-tokens w first (entry q v es) =
      let at : List TokenType → List TokenType = λ x. form.entry_tokens first ++ x in
      let by : List TokenType → List TokenType = λ x. form.entry_tokens first ++ (x ++ entry_tokens w es) in
      ap at (same-entry-tokens w (entry_of (scalar_of q) (form_of (before_more w) q) (child_form (before_entries w es) v)) es)
      ∙ ap by (entry-tokens (before_more w) (before_entries w es) q v (same-tokens (before_more w) q) (same-tokens (before_entries w es) v))
