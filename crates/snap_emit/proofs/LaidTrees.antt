-- The value of a layout is read as the tree that the layout spells, and a number is kept exactly where one stands bare.
use Rattle.snap_emit.proofs.Prelude.{◌≡◌, ℕ, ℤ, Bool, true, false, List, Option, Some, None, refl, sym, ap, ◌||◌, not, if◌then◌else◌, option_map, option_and_then, codes, plain_read, plains_read, entries_read, has_number_text, have_number_texts, are_number_texts_in, is_whole}
use Rattle.std.specs.Str.{bytes_eq}
use Rattle.snap_content.specs.Plain as p
use Rattle.snap_print.specs.Typed as t
use Rattle.snap_parse_laws.specs.Forms.{square, curly}
use Rattle.snap_parse_laws.specs.Layouts as w
use Rattle.snap_yaml.specs.Through.{plain_typed}
use Rattle.snap_yaml.specs.Typing.{typed_yaml, typed_word, typed_number, prefixed_number, integer_or, integer_of, is_real_text}
use Rattle.snap_yaml.specs.Value as v
use Rattle.snap_yaml.proofs.Through.{typed_through}
use Rattle.snap_parse.specs.LaidValues.{scalar_value, leaf_value, collection_value, item_value, items_values, keyed_value, entry_values, entries_values, layout_value}
use Rattle.snap_emit.specs.LayoutTrees as m

-- a value is read as this tree, and a number in it is kept as its text or not
pub record Reads (value : v.Value) (plain : p.Plain) (keeps : Bool) : Type 0 where
  pub plainly : plain_read value ≡ Some plain
  pub numbers : has_number_text value ≡ keeps

-- what a scalar is typed as is what is read of its value
value-if : (b : Bool) (z : ℤ) (s : List ℕ) (x : p.Plain) → (if b then t.value (p.int z) else t.real) ≡ t.value x → Some (if b then p.int z else p.text s) ≡ Some x
value-if true z s x h = cc
value-if false z s x h = absurd (cc)

kept-if : (b : Bool) (z : ℤ) (s : List ℕ) → (if b then t.value (p.int z) else t.real) ≡ t.real → b ≡ false
kept-if true z s h = absurd (cc)
kept-if false z s h = refl

text-if : (b : Bool) (z : ℤ) (s : List ℕ) → b ≡ false → Some (if b then p.int z else p.text s) ≡ Some (p.text s)
text-if b z s h = rw h refl

whole-if : (b : Bool) (z : ℤ) (x : p.Plain) → (if b then t.value (p.int z) else t.real) ≡ t.value x → not b ≡ false
whole-if true z x h = refl
whole-if false z x h = absurd (cc)

-- a typed scalar is no list, no dict and no bad value, and a number that is kept is kept as the text itself
data IsTyped : List ℕ → v.Value → Type 0 where
  kept : (u : List ℕ) → IsTyped u (v.real u)
  whole : (u : List ℕ) (z : ℤ) → IsTyped u (v.integer z)
  words : (u : List ℕ) → IsTyped u (v.string u)
  truth : (u : List ℕ) (b : Bool) → IsTyped u (v.boolean b)
  nothing : (u : List ℕ) → IsTyped u v.null

typed-or : (o : Option ℤ) (u : List ℕ) (x : v.Value) → IsTyped u x → IsTyped u (integer_or o x)
typed-or None u x h = h
typed-or (Some z) u x h = whole u z

typed-if : (b : Bool) (u : List ℕ) (x y : v.Value) → IsTyped u x → IsTyped u y → IsTyped u (if b then x else y)
typed-if true u x y h k = h
typed-if false u x y h k = k

is-typed : (u : List ℕ) → IsTyped u (typed_yaml u)
is-typed u =
    let number : v.Value = if is_real_text u then v.real u else v.string u in
    let falsehood : v.Value = if bytes_eq u (codes "false") then v.boolean false else typed_number u in
    let told : v.Value = if bytes_eq u (codes "true") then v.boolean true else falsehood in
    typed-or (prefixed_number u) u (typed_word u)
    (typed-if (t.is_null_word u) u v.null told (nothing u)
    (typed-if (bytes_eq u (codes "true")) u (v.boolean true) falsehood (truth u true)
    (typed-if (bytes_eq u (codes "false")) u (v.boolean false) (typed_number u) (truth u false)
    (typed-or (integer_of 10 u) u number (typed-if (is_real_text u) u (v.real u) (v.string u) (kept u) (words u))))))

bare-reads : (u : List ℕ) (x : v.Value) (k : t.Typed) → IsTyped u x → plain_typed x ≡ k → Reads x (m.bare_plain k u) (m.is_real k)
bare-reads _ _ (t.value y) (kept u) h =
    record { plainly = value-if (is_whole u) (t.number_in 10 u) u y h; numbers = whole-if (is_whole u) (t.number_in 10 u) y h }
bare-reads _ _ t.real (kept u) h =
    let no = kept-if (is_whole u) (t.number_in 10 u) u h in
    record { plainly = text-if (is_whole u) (t.number_in 10 u) u no; numbers = ap not no }
bare-reads _ _ (t.value y) (whole u z) h = record { plainly = cc; numbers = refl }
bare-reads _ _ t.real (whole u z) h = absurd (cc)
bare-reads _ _ (t.value y) (words u) h = record { plainly = cc; numbers = refl }
bare-reads _ _ t.real (words u) h = absurd (cc)
bare-reads _ _ (t.value y) (truth u b) h = record { plainly = cc; numbers = refl }
bare-reads _ _ t.real (truth u b) h = absurd (cc)
bare-reads _ _ (t.value y) (nothing u) h = record { plainly = cc; numbers = refl }
bare-reads _ _ t.real (nothing u) h = absurd (cc)

scalar-reads : (s : w.Scalar) → Reads (scalar_value s) (m.scalar_plain s) (m.scalar_keeps s)
scalar-reads (w.bare u) = bare-reads u (typed_yaml u) (t.typed u) (is-typed u) (sym (typed_through u))
scalar-reads (w.quote x) = record { plainly = refl; numbers = refl }

leaf-reads : (x : w.Leaf) → Reads (leaf_value x) (m.leaf_plain x) (m.leaf_keeps x)
leaf-reads (w.word s r) = scalar-reads s
leaf-reads (w.empty square r) = record { plainly = refl; numbers = refl }
leaf-reads (w.empty curly r) = record { plainly = refl; numbers = refl }
leaf-reads (w.block u count more) = record { plainly = refl; numbers = refl }

record ReadItems (values : v.Values) (plains : p.Plains) (keep : Bool) : Type 0 where
  plainly : plains_read values ≡ Some plains
  numbers : have_number_texts values ≡ keep

record ReadEntries (values : v.ValuePairs) (entries : p.Entries) (keep : Bool) : Type 0 where
  plainly : entries_read values ≡ Some entries
  numbers : are_number_texts_in values ≡ keep

one-item : (x : Option p.Plain) (o : Option p.Plains) (q : p.Plain) (qs : p.Plains) → x ≡ Some q → o ≡ Some qs → option_and_then (λ first. option_map (p.item first) o) x ≡ Some (p.item q qs)
one-item x o q qs is rest = rw (is, rest) refl

one-entry : (k x : Option p.Plain) (o : Option p.Entries) (key value : p.Plain) (es : p.Entries) → k ≡ Some key → x ≡ Some value → o ≡ Some es
    → option_and_then (λ a. option_and_then (λ b. option_map (p.entry a b) o) x) k ≡ Some (p.entry key value es)
one-entry k x o key value es is also rest = rw (is, also, rest) refl

either : (a b c d : Bool) → a ≡ c → b ≡ d → a || b ≡ c || d
either a b c d e f = rw (e, f) refl

more-items : (x : v.Value) (xs : v.Values) (q : p.Plain) (qs : p.Plains) (a b : Bool) → Reads x q a → ReadItems xs qs b → ReadItems (v.value x xs) (p.item q qs) (a || b)
more-items x xs q qs a b one rest = record {
  plainly = one-item (plain_read x) (plains_read xs) q qs one.plainly rest.plainly;
  numbers = either (has_number_text x) (have_number_texts xs) a b one.numbers rest.numbers;
}

more-entries : (k x : v.Value) (xs : v.ValuePairs) (key value : p.Plain) (es : p.Entries) (a b c : Bool) → Reads k key a → Reads x value b → ReadEntries xs es c
    → ReadEntries (v.pair k x xs) (p.entry key value es) (a || (b || c))
more-entries k x xs key value es a b c one two rest = record {
  plainly = one-entry (plain_read k) (plain_read x) (entries_read xs) key value es one.plainly two.plainly rest.plainly;
  numbers = either (has_number_text k) (has_number_text x || are_number_texts_in xs) a (b || c) one.numbers
      (either (has_number_text x) (are_number_texts_in xs) b c two.numbers rest.numbers);
}

no-items : ReadItems v.no_values p.no_items false
no-items = record { plainly = refl; numbers = refl }

no-entries : ReadEntries v.no_pairs p.no_entries false
no-entries = record { plainly = refl; numbers = refl }

a-list : (values : v.Values) (plains : p.Plains) (keep : Bool) → ReadItems values plains keep → Reads (v.array values) (p.list plains) keep
a-list values plains keep all = record { plainly = ap (option_map p.list) all.plainly; numbers = all.numbers }

a-dict : (values : v.ValuePairs) (entries : p.Entries) (keep : Bool) → ReadEntries values entries keep → Reads (v.hash values) (p.dict entries) keep
a-dict values entries keep all = record { plainly = ap (option_map p.dict) all.plainly; numbers = all.numbers }

mutual
  collection-reads : (c : w.Collection) → Reads (collection_value c) (m.collection_plain c) (m.collection_keeps c)
  collection-reads (w.list ts) = a-list (items_values ts) (m.items_plain ts) (m.items_keep ts) (items-read ts)
  collection-reads (w.dict es) = a-dict (entries_values es) (m.entries_plain es) (m.entries_keep es) (entries-read es)

  item-reads : (i : w.Item) → Reads (item_value i) (m.item_plain i) (m.item_keeps i)
  item-reads (w.piece k x) = leaf-reads x
  item-reads (w.beside k c) = collection-reads c
  item-reads (w.below g k c) = collection-reads c

  items-read : (ts : w.Items) → ReadItems (items_values ts) (m.items_plain ts) (m.items_keep ts)
  items-read (w.last i) = more-items (item_value i) v.no_values (m.item_plain i) p.no_items (m.item_keeps i) false (item-reads i) no-items
  items-read (w.item i ts) =
      more-items (item_value i) (items_values ts) (m.item_plain i) (m.items_plain ts) (m.item_keeps i) (m.items_keep ts) (item-reads i) (items-read ts)

  keyed-reads : (x : w.Value) → Reads (keyed_value x) (m.keyed_plain x) (m.keyed_keeps x)
  keyed-reads (w.piece_of k x) = leaf-reads x
  keyed-reads (w.below_key g k c) = collection-reads c
  keyed-reads (w.level g ts) = a-list (items_values ts) (m.items_plain ts) (m.items_keep ts) (items-read ts)

  entry-reads : (e : w.Entry) (xs : v.ValuePairs) (es : p.Entries) (keep : Bool) → ReadEntries xs es keep → ReadEntries (entry_values e xs) (m.entry_plain e es) (m.entry_keeps e keep)
  entry-reads (w.simple s x) xs es keep rest =
      more-entries (scalar_value s) (keyed_value x) xs (m.scalar_plain s) (m.keyed_plain x) es (m.scalar_keeps s) (m.keyed_keeps x) keep (scalar-reads s) (keyed-reads x) rest
  entry-reads (w.complex q x) xs es keep rest =
      more-entries (item_value q) (item_value x) xs (m.item_plain q) (m.item_plain x) es (m.item_keeps q) (m.item_keeps x) keep (item-reads q) (item-reads x) rest

  entries-read : (es : w.Entries) → ReadEntries (entries_values es) (m.entries_plain es) (m.entries_keep es)
  entries-read (w.only e) = entry-reads e v.no_pairs p.no_entries false no-entries
  entries-read (w.pair e es) = entry-reads e (entries_values es) (m.entries_plain es) (m.entries_keep es) (entries-read es)

pub layout-reads : (x : w.Layout) → Reads (layout_value x) (m.layout_plain x) (m.layout_keeps x)
layout-reads (w.leaf x) = leaf-reads x
layout-reads (w.collection c) = collection-reads c
