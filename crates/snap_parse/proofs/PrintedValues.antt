-- The value of the node of a printed tree.
use Rattle.snap_parse.proofs.Prelude.{◌≡◌, ℕ, ℤ, List, [], ◌∷◌, Bool, true, false, ◌==◌, ◌||◌, ◌&&◌, nat_lt, if◌then◌else◌, Option, None, Some, unwrap_or, refl, sym, ap, ◌∙◌, codes, bytes_eq, needs_quotes, IsNumber, IsWithin, AreWithin, AreEntriesWithin, is_bad, paired, and_some, scalar_value, node_value, values_in, values_in_pairs, document_value, Blocks, before_more, before_items, before_entries, as_block, child_node, node_of, nodes_of, pairs_of, read_number, read_value, read_values, read_pairs}
use Rattle.std.specs.Char.{digit_value, is_ascii_digit}
use Rattle.std.specs.Fmt.{signed_decimal}
use Rattle.std.specs.List.{list_all}
use Rattle.snap_content.specs.Numbers.{is_digits, is_integer_text}
use Rattle.snap_content.specs.Plain as p
use Rattle.snap_print.specs.Typed as t
use Rattle.snap_parse_events.specs.Nodes as n
use Rattle.snap_print.specs.Blocks.{is_block}
use Rattle.snap_scan_tokens.specs.declared.token.TScalarStyle.TheVariants as style
use Rattle.snap_yaml.specs.Through.{plain_typed}
use Rattle.snap_yaml.specs.Typing.{is_digits_in, is_integer_in, integer_of, behind_zero, prefixed_number, is_real_text, integer_or, typed_number, typed_word, typed_yaml}
use Rattle.snap_yaml.specs.Value as v
use Rattle.snap_yaml.proofs.Through.{typed_through, digit_test}
use Rattle.snap_print.proofs.Typing.{typed_bare}
use Rattle.snap_print.proofs.Typing as words
use Rattle.snap_content.proofs.Booleans.{both_second}

-- texts
kept-no-text : (b : Bool) (z : ℤ) (s : List ℕ) → (if b then t.value (p.int z) else t.real) ≡ t.value (p.text s) → ⊥
kept-no-text true z s h = cc
kept-no-text false z s h = cc

is-text : (x : v.Value) (s : List ℕ) → plain_typed x ≡ t.value (p.text s) → x ≡ v.string s
is-text (v.real w) s h = absurd (kept-no-text (is_integer_text w && t.has_128_bits (t.number_in 10 w)) (t.number_in 10 w) s h)
is-text (v.integer z) s h = absurd (cc)
is-text (v.string w) s h = let same : w ≡ s = cc in ap v.string same
is-text (v.boolean b) s h = absurd (cc)
is-text (v.array items) s h = absurd (cc)
is-text (v.hash pairs) s h = absurd (cc)
is-text v.null s h = absurd (cc)
is-text v.bad_value s h = absurd (cc)

bare-text : (s : List ℕ) → needs_quotes s ≡ false → typed_yaml s ≡ v.string s
bare-text s h = is-text (typed_yaml s) s (sym (typed_through s) ∙ typed_bare s h)

text-if : (b : Bool) (s : List ℕ) → needs_quotes s ≡ b → scalar_value s (if b then style.DoubleQuoted else style.Plain) None ≡ v.string s
text-if true s h = refl
text-if false s h = bare-text s h

-- numbers: a scalar that is typed as one is a whole number, or kept as it is written
pub data IsNumeral (w : List ℕ) (x : v.Value) : Type 0 where
  whole : (z : ℤ) → x ≡ v.integer z → t.has_64_bits z ≡ true → IsNumeral w x
  kept : x ≡ v.real w → is_integer_in 10 w ≡ false → IsNumeral w x
  other : ((z : ℤ) → plain_typed x ≡ t.value (p.int z) → ⊥) → IsNumeral w x

integer-short : (base : ℕ) (cs : List ℕ) → is_integer_in base cs ≡ true → t.has_64_bits (t.number_in base cs) ≡ true
integer-short base [] h = absurd (cc)
integer-short base (c ∷ cs) h = both_second (if c == 43 || c == 45 then is_digits_in base cs else is_digits_in base (c ∷ cs)) (t.has_64_bits (t.number_in base (c ∷ cs))) h

chosen-short : (b : Bool) (z y : ℤ) → (b ≡ true → t.has_64_bits z ≡ true) → (if b then Some z else None) ≡ Some y → t.has_64_bits y ≡ true
chosen-short true z y short h = let same : z ≡ y = cc in ap t.has_64_bits (sym same) ∙ short refl
chosen-short false z y short h = absurd (cc)

short : (base : ℕ) (cs : List ℕ) (y : ℤ) → integer_of base cs ≡ Some y → t.has_64_bits y ≡ true
short base cs y h = chosen-short (is_integer_in base cs) (t.number_in base cs) y (integer-short base cs) h

short-if : (b : Bool) (m n : Option ℤ) (y : ℤ) → (m ≡ Some y → t.has_64_bits y ≡ true) → (n ≡ Some y → t.has_64_bits y ≡ true) → (if b then m else n) ≡ Some y → t.has_64_bits y ≡ true
short-if true m n y f g h = f h
short-if false m n y f g h = g h

none-short : (y : ℤ) → None ≡ Some y → t.has_64_bits y ≡ true
none-short y h = absurd (cc)

behind-short : (cs : List ℕ) (y : ℤ) → behind_zero cs ≡ Some y → t.has_64_bits y ≡ true
behind-short [] y h = none-short y h
behind-short (c ∷ cs) y h =
    short-if (c == 120) (integer_of 16 cs) (if c == 111 then integer_of 8 cs else None) y (short 16 cs y)
    (λ k. short-if (c == 111) (integer_of 8 cs) None y (short 8 cs y) (none-short y) k) h

prefixed-short : (w : List ℕ) (y : ℤ) → prefixed_number w ≡ Some y → t.has_64_bits y ≡ true
prefixed-short [] y h = none-short y h
prefixed-short (c ∷ cs) y h =
    short-if (c == 43) (integer_of 10 cs) (if c == 48 then behind_zero cs else None) y (short 10 cs y)
    (λ k. short-if (c == 48) (behind_zero cs) None y (behind-short cs y) (none-short y) k) h

numeral-or : (o : Option ℤ) (w : List ℕ) (x : v.Value) → ((y : ℤ) → o ≡ Some y → t.has_64_bits y ≡ true) → IsNumeral w x → IsNumeral w (integer_or o x)
numeral-or None w x is h = h
numeral-or (Some z) w x is h = whole z refl (is z refl)

real-or-text : (r : Bool) (w : List ℕ) → is_integer_in 10 w ≡ false → IsNumeral w (if r then v.real w else v.string w)
real-or-text true w isnt = kept refl isnt
real-or-text false w isnt = other (λ z h. cc)

decimal-or : (b : Bool) (w : List ℕ) → is_integer_in 10 w ≡ b → IsNumeral w (integer_or (if b then Some (t.number_in 10 w) else None) (if is_real_text w then v.real w else v.string w))
decimal-or true w h = whole (t.number_in 10 w) refl (integer-short 10 w h)
decimal-or false w h = real-or-text (is_real_text w) w h

numeral-if : (b : Bool) (w : List ℕ) (x y : v.Value) → IsNumeral w x → IsNumeral w y → IsNumeral w (if b then x else y)
numeral-if true w x y h k = h
numeral-if false w x y h k = k

numeral : (w : List ℕ) → IsNumeral w (typed_yaml w)
numeral w =
    let f : v.Value = if bytes_eq w (codes "false") then v.boolean false else typed_number w in
    let n : v.Value = if bytes_eq w (codes "true") then v.boolean true else f in
    numeral-or (prefixed_number w) w (typed_word w) (prefixed-short w)
    (numeral-if (t.is_null_word w) w v.null n (other (λ z h. cc))
    (numeral-if (bytes_eq w (codes "true")) w (v.boolean true) f (other (λ z h. cc))
    (numeral-if (bytes_eq w (codes "false")) w (v.boolean false) (typed_number w) (other (λ z h. cc)) (decimal-or (is_integer_in 10 w) w refl))))

all-digits : (cs : List ℕ) → list_all is_ascii_digit cs ≡ list_all (λ c. nat_lt (digit_value c) 10) cs
all-digits [] = refl
all-digits (c ∷ cs) = ap (λ b. b && list_all is_ascii_digit cs) (sym (digit_test c)) ∙ ap (λ b. nat_lt (digit_value c) 10 && b) (all-digits cs)

same-digits : (cs : List ℕ) → is_digits cs ≡ is_digits_in 10 cs
same-digits [] = refl
same-digits (c ∷ cs) = all-digits (c ∷ cs)

digits-if : (s a b x y bits : Bool) → a ≡ x → b ≡ y → (if s then a else b) ≡ true → ((if s then x else y) && bits) ≡ false → bits ≡ false
digits-if true true b true y bits e f h k = k
digits-if true true b false y bits e f h k = absurd (cc)
digits-if true false b x y bits e f h k = absurd (cc)
digits-if false a true x true bits e f h k = k
digits-if false a true x false bits e f h k = absurd (cc)
digits-if false a false x y bits e f h k = absurd (cc)

wide-digits : (w : List ℕ) → is_integer_text w ≡ true → is_integer_in 10 w ≡ false → t.has_64_bits (t.number_in 10 w) ≡ false
wide-digits [] h k = absurd (cc)
wide-digits (c ∷ cs) h k =
    digits-if (c == 43 || c == 45) (is_digits cs) (is_digits (c ∷ cs)) (is_digits_in 10 cs) (is_digits_in 10 (c ∷ cs)) (t.has_64_bits (t.number_in 10 (c ∷ cs)))
    (same-digits cs) (same-digits (c ∷ cs)) h k

kept-is : (a b : Bool) (y z : ℤ) → (if a && b then t.value (p.int y) else t.real) ≡ t.value (p.int z) → (a ≡ true) × (y ≡ z)
kept-is true true y z h = (refl, cc)
kept-is true false y z h = absurd (cc)
kept-is false b y z h = absurd (cc)

read-if : (b : Bool) (z : ℤ) (w : List ℕ) (x : v.Value) → (b ≡ true → x ≡ v.integer z) → (b ≡ false → x ≡ v.real w) → x ≡ (if b then v.integer z else v.real w)
read-if true z w x h k = h refl
read-if false z w x h k = k refl

clash : (b : Bool) → b ≡ true → b ≡ false → ⊥
clash true h k = cc
clash false h k = cc

read-numeral : (z : ℤ) (w : List ℕ) (x : v.Value) → IsNumeral w x → plain_typed x ≡ t.value (p.int z) → x ≡ (if t.has_64_bits z then v.integer z else v.real w)
read-numeral z w x (whole y is bits) h =
    let typed : t.value (p.int y) ≡ t.value (p.int z) = ap plain_typed (sym is) ∙ h in
    let same : y ≡ z = cc in
    read-if (t.has_64_bits z) z w x (λ _. is ∙ ap v.integer same) (λ isnt. absurd (clash (t.has_64_bits z) (ap t.has_64_bits (sym same) ∙ bits) isnt))
read-numeral z w x (kept is isnt) h =
    let k = kept-is (is_integer_text w) (t.has_128_bits (t.number_in 10 w)) (t.number_in 10 w) z (ap plain_typed (sym is) ∙ h) in
    let wide : t.has_64_bits z ≡ false = ap t.has_64_bits (sym k.1) ∙ wide-digits w k.0 isnt in
    read-if (t.has_64_bits z) z w x (λ yes. absurd (clash (t.has_64_bits z) yes wide)) (λ _. is)
read-numeral z w x (other never) h = absurd (never z h)

pub number-read : (z : ℤ) → IsNumber z → typed_yaml (signed_decimal z) ≡ read_number z
number-read z within = read-numeral z (signed_decimal z) (typed_yaml (signed_decimal z)) (numeral (signed_decimal z)) (sym (typed_through (signed_decimal z)) ∙ words.typed_word (p.int z) refl within)

-- nothing that is read is bad
bad-if : (b : Bool) (z : ℤ) (w : List ℕ) → is_bad (if b then v.integer z else v.real w) ≡ false
bad-if true z w = refl
bad-if false z w = refl

pub never-bad : (x : p.Plain) → is_bad (read_value x) ≡ false
never-bad p.null = refl
never-bad (p.bool b) = refl
never-bad (p.int z) = bad-if (t.has_64_bits z) z (signed_decimal z)
never-bad (p.text s) = refl
never-bad (p.list items) = refl
never-bad (p.dict held) = refl

key-kept : (b : Bool) (k x : v.Value) (vs : List v.Value) → b ≡ false → (if b then paired (x ∷ vs) else ((k, x) ∷ paired vs)) ≡ (k, x) ∷ paired vs
key-kept true k x vs h = absurd (cc)
key-kept false k x vs h = refl

-- a key that is not bad takes the value after it
pub pair-read : (a b : Option v.Value) (k x : v.Value) (vs : List v.Value) → a ≡ Some k → b ≡ Some x → is_bad k ≡ false → v.pairs_of (paired (and_some a (and_some b vs))) ≡ v.pair k x (v.pairs_of (paired vs))
pair-read a b k x vs e f h = let g : List (v.Value × v.Value) → v.ValuePairs = λ ps. v.pairs_of ps in rw (e, f) (ap g (key-kept (is_bad k) k x vs h))

pub item-read : (a : Option v.Value) (x : v.Value) (vs : List v.Value) → a ≡ Some x → v.values_of (and_some a vs) ≡ v.value x (v.values_of vs)
item-read a x vs e = rw e refl

-- a text is the same text, whether it is a literal block or not
block-read : (b : Bool) (s : List ℕ) (node : n.Node) → node_value node ≡ Some (v.string s) → node_value (child_node (if b then Some s else None) node) ≡ Some (v.string s)
block-read true s node h = refl
block-read false s node h = h

abbrev node_in : Blocks → p.Plain → n.Node
node_in w x = child_node (as_block w x) (node_of w x)

child-read : (w : Blocks) (x : p.Plain) → node_value (node_of w x) ≡ Some (read_value x) → node_value (node_in w x) ≡ Some (read_value x)
child-read w p.null h = h
child-read w (p.bool b) h = h
child-read w (p.int z) h = h
child-read w (p.text s) h = block-read (is_block w s) s (node_of w (p.text s)) h
child-read w (p.list items) h = h
child-read w (p.dict held) h = h

mutual
  pub value-read : (w : Blocks) (x : p.Plain) → IsWithin x → node_value (node_of w x) ≡ Some (read_value x)
  value-read w p.null within = refl
  value-read w (p.bool true) within = refl
  value-read w (p.bool false) within = refl
  value-read w (p.int z) within = ap Some (number-read z within)
  value-read w (p.text s) within = ap Some (text-if (needs_quotes s) s refl)
  value-read w (p.list items) within = let f : v.Values → Option v.Value = λ u. Some (v.array u) in ap f (values-read w items within)
  value-read w (p.dict entries) within = let f : v.ValuePairs → Option v.Value = λ u. Some (v.hash u) in ap f (pairs-read w entries within)

  values-read : (w : Blocks) (xs : p.Plains) → AreWithin xs → v.values_of (values_in (nodes_of w xs)) ≡ read_values xs
  values-read w p.no_items within = refl
  values-read w (p.item x xs) within =
      let f : v.Values → v.Values = λ u. v.value (read_value x) u in
      let first = child-read (before_items w xs) x (value-read (before_items w xs) x within.0) in
      item-read (node_value (node_in (before_items w xs) x)) (read_value x) (values_in (nodes_of w xs)) first ∙ ap f (values-read w xs within.1)

  pairs-read : (w : Blocks) (es : p.Entries) → AreEntriesWithin es → v.pairs_of (paired (values_in_pairs (pairs_of w es))) ≡ read_pairs es
  pairs-read w p.no_entries within = refl
  pairs-read w (p.entry k x es) within =
      let f : v.ValuePairs → v.ValuePairs = λ u. v.pair (read_value k) (read_value x) u in
      let key = value-read (before_more w) k within.0 in
      let first = child-read (before_entries w es) x (value-read (before_entries w es) x within.1.0) in
      pair-read (node_value (node_of (before_more w) k)) (node_value (node_in (before_entries w es) x)) (read_value k) (read_value x) (values_in_pairs (pairs_of w es)) key first (never-bad k)
      ∙ ap f (pairs-read w es within.1.1)

pub value-of : (a : Option v.Value) (x : v.Value) → a ≡ Some x → unwrap_or a v.bad_value ≡ x
value-of a x e = rw e refl

pub document-read : (w : Blocks) (x : p.Plain) → IsWithin x → document_value (node_of w x) ≡ read_value x
document-read w x within = value-of (node_value (node_of w x)) (read_value x) (value-read w x within)
