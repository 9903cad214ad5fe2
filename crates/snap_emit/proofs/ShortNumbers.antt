-- The numbers of a document that is read as a tree have at most 128 bits.
use Rattle.snap_emit.proofs.Prelude.{◌≡◌, ◌^◌, ℕ, ℤ, Bool, true, false, List, [], ◌∷◌, Option, Some, None, option_map, option_and_then, if◌then◌else◌, ◌&&◌, ◌||◌, refl, sym, ap, subst, ◌∙◌, arith, codes, unwrap_or, IsNumber, IsWithin, AreWithin, AreEntriesWithin, tree, Content, content_of, plain, plain_read, plains_read, entries_read, is_whole}
use Rattle.std.proofs.Common.{pos, negsuc, ◌==◌}
use Rattle.std.specs.Str.{bytes_eq}
use borrow.Author.Tests.{ltb-true}
use Rattle.snap_content.specs.Numbers.{is_integer_text}
use Rattle.snap_content.specs.Plain as p
use Rattle.snap_print.specs.Typed.{number_in, has_64_bits, has_128_bits, is_null_word}
use Rattle.snap_content.proofs.PlainMade.{plain_made}
use Rattle.snap_scan_tokens.specs.declared.token.TScalarStyle.{TScalarStyle}
use Rattle.snap_scan_tokens.specs.declared.token.TScalarStyle.TheVariants as style
use Rattle.snap_scan_tokens.specs.declared.tag.Tag.{Tag}
use Rattle.snap_parse_events.specs.Nodes.{Node, alias, scalar, list, dict, Nodes, no_nodes, node, Pairs, no_pairs, pair}
use Rattle.snap_yaml.specs.Readers.{is_bad}
use Rattle.snap_yaml.specs.Typing.{is_integer_in, integer_of, is_digits_in, behind_zero, prefixed_number, is_real_text, integer_or, typed_word, typed_yaml, typed_bool, typed_int, typed_float, typed_null, typed_as}
use Rattle.snap_yaml.specs.Value as v
use Rattle.snap_parse.specs.Documents.{plain_value, scalar_value, paired, behind, and_some, node_value, values_in, values_in_pairs, document_value}

-- each whole number of a value has 64 bits
abbrev mutual
  IsShort : v.Value → Type 0
  IsShort (v.real w) = Unit {0}
  IsShort (v.integer z) = has_64_bits z ≡ true
  IsShort (v.string s) = Unit {0}
  IsShort (v.boolean b) = Unit {0}
  IsShort (v.array xs) = AreShort xs
  IsShort (v.hash ps) = ArePairsShort ps
  IsShort v.null = Unit {0}
  IsShort v.bad_value = Unit {0}

  AreShort : v.Values → Type 0
  AreShort v.no_values = Unit {0}
  AreShort (v.value x xs) = IsShort x × AreShort xs

  ArePairsShort : v.ValuePairs → Type 0
  ArePairsShort v.no_pairs = Unit {0}
  ArePairsShort (v.pair k x ps) = IsShort k × (IsShort x × ArePairsShort ps)

-- what a scalar is typed as
abbrev GivesShort : Option ℤ → Type 0
GivesShort o = (z : ℤ) → o ≡ Some z → has_64_bits z ≡ true

second : (a b : Bool) → (a && b) ≡ true → b ≡ true
second true b h = h
second false b h = absurd (cc)

none-short : GivesShort None
none-short z is = absurd (cc)

some-short : (b : Bool) (y : ℤ) → (b ≡ true → has_64_bits y ≡ true) → GivesShort (if b then Some y else None)
some-short true y f z is = let same : y ≡ z = cc in ap has_64_bits (sym same) ∙ f refl
some-short false y f z is = absurd (cc)

either-short : (b : Bool) (x y : Option ℤ) → GivesShort x → GivesShort y → GivesShort (if b then x else y)
either-short true x y f g = f
either-short false x y f g = g

integer-short : (base : ℕ) (w : List ℕ) → GivesShort (integer_of base w)
integer-short base [] = none-short
integer-short base (c ∷ cs) =
    let digits : Bool = if (c == 43 || c == 45) then is_digits_in base cs else is_digits_in base (c ∷ cs) in
    some-short (is_integer_in base (c ∷ cs)) (number_in base (c ∷ cs)) (λ h. second digits (has_64_bits (number_in base (c ∷ cs))) h)

zero-short : (w : List ℕ) → GivesShort (behind_zero w)
zero-short [] = none-short
zero-short (c ∷ cs) =
    either-short (c == 120) (integer_of 16 cs) (if c == 111 then integer_of 8 cs else None) (integer-short 16 cs) (either-short (c == 111) (integer_of 8 cs) None (integer-short 8 cs) none-short)

prefixed-short : (w : List ℕ) → GivesShort (prefixed_number w)
prefixed-short [] = none-short
prefixed-short (c ∷ cs) =
    either-short (c == 43) (integer_of 10 cs) (if c == 48 then behind_zero cs else None) (integer-short 10 cs) (either-short (c == 48) (behind_zero cs) None (zero-short cs) none-short)

or-short : (o : Option ℤ) (x : v.Value) → GivesShort o → IsShort x → IsShort (integer_or o x)
or-short None x f h = h
or-short (Some z) x f h = f z refl

if-short : (b : Bool) (x y : v.Value) → IsShort x → IsShort y → IsShort (if b then x else y)
if-short true x y h k = h
if-short false x y h k = k

typed-short : (w : List ℕ) → IsShort (typed_yaml w)
typed-short w =
    let number : v.Value = if is_real_text w then v.real w else v.string w in
    let numbered : v.Value = integer_or (integer_of 10 w) number in
    let falsehood : v.Value = if bytes_eq w (codes "false") then v.boolean false else numbered in
    let told : v.Value = if bytes_eq w (codes "true") then v.boolean true else falsehood in
    or-short (prefixed_number w) (typed_word w) (prefixed-short w)
    (if-short (is_null_word w) v.null told tt
    (if-short (bytes_eq w (codes "true")) (v.boolean true) falsehood tt
    (if-short (bytes_eq w (codes "false")) (v.boolean false) numbered tt
    (or-short (integer_of 10 w) number (integer-short 10 w) (if-short (is_real_text w) (v.real w) (v.string w) tt tt)))))

bool-short : (w : List ℕ) → IsShort (typed_bool w)
bool-short w =
    let other : v.Value = if bytes_eq w (codes "false") then v.boolean false else v.bad_value in
    if-short (bytes_eq w (codes "true")) (v.boolean true) other tt (if-short (bytes_eq w (codes "false")) (v.boolean false) v.bad_value tt tt)

as-short : (suffix w : List ℕ) → IsShort (typed_as suffix w)
as-short suffix w =
    let nothing : v.Value = if bytes_eq suffix (codes "null") then typed_null w else v.string w in
    let float : v.Value = if bytes_eq suffix (codes "float") then typed_float w else nothing in
    let int : v.Value = if bytes_eq suffix (codes "int") then typed_int w else float in
    if-short (bytes_eq suffix (codes "bool")) (typed_bool w) int (bool-short w)
    (if-short (bytes_eq suffix (codes "int")) (typed_int w) float (or-short (integer_of 10 w) v.bad_value (integer-short 10 w) tt)
    (if-short (bytes_eq suffix (codes "float")) (typed_float w) nothing (if-short (is_real_text w) (v.real w) v.bad_value tt tt)
    (if-short (bytes_eq suffix (codes "null")) (typed_null w) (v.string w) (if-short (is_null_word w) v.null v.bad_value tt tt) tt)))

plain-short : (w : List ℕ) (tag : Option Tag) → IsShort (plain_value w tag)
plain-short w None = typed-short w
plain-short w (Some tag) = if-short (bytes_eq tag.handle (codes "!!")) (typed_as tag.suffix w) (v.string w) (as-short tag.suffix w) tt

scalar-short : (w : List ℕ) (s : TScalarStyle) (tag : Option Tag) → IsShort (scalar_value w s tag)
scalar-short w style.Plain tag = plain-short w tag
scalar-short w style.SingleQuoted tag = tt
scalar-short w style.DoubleQuoted tag = tt
scalar-short w style.Literal tag = tt
scalar-short w style.Foled tag = tt

-- lists of values, and pairs
abbrev AllShort : List v.Value → Type 0
AllShort [] = Unit {0}
AllShort (x ∷ xs) = IsShort x × AllShort xs

abbrev AllPairsShort : List (v.Value × v.Value) → Type 0
AllPairsShort [] = Unit {0}
AllPairsShort (q ∷ qs) = IsShort q.0 × (IsShort q.1 × AllPairsShort qs)

list-short : (xs : List v.Value) → AllShort xs → AreShort (v.values_of xs)
list-short [] h = tt
list-short (x ∷ xs) h = (h.0, list-short xs h.1)

dict-short : (qs : List (v.Value × v.Value)) → AllPairsShort qs → ArePairsShort (v.pairs_of qs)
dict-short [] h = tt
dict-short (q ∷ qs) h = (h.0, (h.1.0, dict-short qs h.1.1))

pairs-if : (b : Bool) (xs ys : List (v.Value × v.Value)) → AllPairsShort xs → AllPairsShort ys → AllPairsShort (if b then xs else ys)
pairs-if true xs ys h k = h
pairs-if false xs ys h k = k

mutual
  paired-short : (xs : List v.Value) → AllShort xs → AllPairsShort (paired xs)
  paired-short [] h = tt
  paired-short (x ∷ xs) h = pairs-if (is_bad x) (paired xs) (behind x xs) (paired-short xs h.1) (behind-short x xs h.0 h.1)

  behind-short : (k : v.Value) (xs : List v.Value) → IsShort k → AllShort xs → AllPairsShort (behind k xs)
  behind-short k [] h rest = tt
  behind-short k (x ∷ xs) h rest = (h, (rest.0, paired-short xs rest.1))

abbrev IsSomeShort : Option v.Value → Type 0
IsSomeShort None = Unit {0}
IsSomeShort (Some x) = IsShort x

and-short : (o : Option v.Value) (xs : List v.Value) → IsSomeShort o → AllShort xs → AllShort (and_some o xs)
and-short None xs h k = k
and-short (Some x) xs h k = (h, k)

mutual
  node-short : (n : Node) → IsSomeShort (node_value n)
  node-short (alias id) = tt
  node-short (scalar text s id tag) = scalar-short text s tag
  node-short (list id ns) = list-short (values_in ns) (nodes-short ns)
  node-short (dict id ps) = dict-short (paired (values_in_pairs ps)) (paired-short (values_in_pairs ps) (pairs-short ps))

  nodes-short : (ns : Nodes) → AllShort (values_in ns)
  nodes-short no_nodes = tt
  nodes-short (node n ns) = and-short (node_value n) (values_in ns) (node-short n) (nodes-short ns)

  pairs-short : (ps : Pairs) → AllShort (values_in_pairs ps)
  pairs-short no_pairs = tt
  pairs-short (pair n m ps) =
      and-short (node_value n) (and_some (node_value m) (values_in_pairs ps)) (node-short n) (and-short (node_value m) (values_in_pairs ps) (node-short m) (pairs-short ps))

or-bad : (o : Option v.Value) → IsSomeShort o → IsShort (unwrap_or o v.bad_value)
or-bad None h = tt
or-bad (Some x) h = h

-- and what is read of them
short-number : (z : ℤ) → has_64_bits z ≡ true → IsNumber z
short-number (pos n) h = let below = ltb-true n (2 ^ 63) h in omega (arith, below)
short-number (negsuc n) h = let below = ltb-true n (2 ^ 63) h in omega (arith, below)

wide-number : (z : ℤ) → has_128_bits z ≡ true → IsNumber z
wide-number (pos n) h = ltb-true n (2 ^ 128) h
wide-number (negsuc n) h = ltb-true n (2 ^ 127) h

some-same : (a b : p.Plain) → Some a ≡ Some b → a ≡ b
some-same a b same = cc

is-within : (a b : p.Plain) → Some a ≡ Some b → IsWithin a → IsWithin b
is-within a b same h = subst IsWithin (some-same a b same) h

number-within : (b : Bool) (z : ℤ) (w : List ℕ) → (b ≡ true → IsNumber z) → IsWithin (if b then p.int z else p.text w)
number-within true z w f = f refl
number-within false z w f = tt

list-within : (o : Option p.Plains) (q : p.Plain) → ((qs : p.Plains) → o ≡ Some qs → AreWithin qs) → option_map p.list o ≡ Some q → IsWithin q
list-within None q f is = absurd (cc)
list-within (Some qs) q f is = is-within (p.list qs) q is (f qs refl)

dict-within : (o : Option p.Entries) (q : p.Plain) → ((es : p.Entries) → o ≡ Some es → AreEntriesWithin es) → option_map p.dict o ≡ Some q → IsWithin q
dict-within None q f is = absurd (cc)
dict-within (Some es) q f is = is-within (p.dict es) q is (f es refl)

item-within : (x : Option p.Plain) (o : Option p.Plains) (qs : p.Plains) → ((q : p.Plain) → x ≡ Some q → IsWithin q) → ((rs : p.Plains) → o ≡ Some rs → AreWithin rs)
    → option_and_then (λ first. option_map (p.item first) o) x ≡ Some qs → AreWithin qs
item-within None o qs f g is = absurd (cc)
item-within (Some q) None qs f g is = absurd (cc)
item-within (Some q) (Some rs) qs f g is = let same : p.item q rs ≡ qs = cc in subst AreWithin same (f q refl, g rs refl)

entry-within : (k x : Option p.Plain) (o : Option p.Entries) (es : p.Entries) → ((q : p.Plain) → k ≡ Some q → IsWithin q) → ((q : p.Plain) → x ≡ Some q → IsWithin q)
    → ((rs : p.Entries) → o ≡ Some rs → AreEntriesWithin rs) → option_and_then (λ key. option_and_then (λ value. option_map (p.entry key value) o) x) k ≡ Some es → AreEntriesWithin es
entry-within None x o es f g h is = absurd (cc)
entry-within (Some a) None o es f g h is = absurd (cc)
entry-within (Some a) (Some b) None es f g h is = absurd (cc)
entry-within (Some a) (Some b) (Some rs) es f g h is = let same : p.entry a b rs ≡ es = cc in subst AreEntriesWithin same (f a refl, (g b refl, h rs refl))

mutual
  read-within : (x : v.Value) → IsShort x → (q : p.Plain) → plain_read x ≡ Some q → IsWithin q
  read-within (v.real w) h q is =
      is-within (if is_whole w then p.int (number_in 10 w) else p.text w) q is
      (number-within (is_whole w) (number_in 10 w) w (λ whole. wide-number (number_in 10 w) (second (is_integer_text w) (has_128_bits (number_in 10 w)) whole)))
  read-within (v.integer z) h q is = is-within (p.int z) q is (short-number z h)
  read-within (v.string s) h q is = is-within (p.text s) q is tt
  read-within (v.boolean b) h q is = is-within (p.bool b) q is tt
  read-within (v.array xs) h q is = list-within (plains_read xs) q (items-within xs h) is
  read-within (v.hash ps) h q is = dict-within (entries_read ps) q (entries-within ps h) is
  read-within v.null h q is = is-within p.null q is tt
  read-within v.bad_value h q is = absurd (cc)

  items-within : (xs : v.Values) → AreShort xs → (qs : p.Plains) → plains_read xs ≡ Some qs → AreWithin qs
  items-within v.no_values h qs is = let same : p.no_items ≡ qs = cc in subst AreWithin same tt
  items-within (v.value x xs) h qs is = item-within (plain_read x) (plains_read xs) qs (read-within x h.0) (items-within xs h.1) is

  entries-within : (ps : v.ValuePairs) → ArePairsShort ps → (es : p.Entries) → entries_read ps ≡ Some es → AreEntriesWithin es
  entries-within v.no_pairs h es is = let same : p.no_entries ≡ es = cc in subst AreEntriesWithin same tt
  entries-within (v.pair k x ps) h es is =
      entry-within (plain_read k) (plain_read x) (entries_read ps) es (read-within k h.0) (read-within x h.1.0) (entries-within ps h.1.1) is

-- what a document is read as
pub document-within : (n : Node) (q : p.Plain) → plain_read (document_value n) ≡ Some q → IsWithin q
document-within n q is = read-within (document_value n) (or-bad (node_value n) (node-short n)) q is

-- and its tree
pub made-within : (n : Node) (q : p.Plain) (made : Content) → plain_read (document_value n) ≡ Some q → tree made ≡ content_of q → IsWithin (plain (tree made))
made-within n q made is made_is = subst IsWithin (sym (ap plain made_is ∙ plain_made q)) (document-within n q is)
