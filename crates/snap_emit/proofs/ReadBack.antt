-- The value that is read of a printed tree is read as that tree.
use Rattle.snap_emit.proofs.Prelude.{◌≡◌, ℕ, ℤ, Bool, true, false, not, ◌||◌, List, Option, Some, option_map, if◌then◌else◌, refl, sym, ap, ◌∙◌, option_and_then, IsNumber, IsWithin, AreWithin, AreEntriesWithin, typed_word, read_value, read_values, read_pairs, document-read, off, is_whole, plain_read, plains_read, entries_read, has_number_text, have_number_texts, are_number_texts_in, or_from}
use Rattle.std.specs.Fmt.{signed_decimal}
use Rattle.snap_content.specs.Plain as p
use Rattle.snap_print.specs.Typed.{has_64_bits, number_in}
use Rattle.snap_print.specs.Typed as t
use Rattle.snap_yaml.specs.Through.{plain_typed}
use Rattle.snap_yaml.specs.Typing.{typed_yaml}
use Rattle.snap_yaml.specs.Value as v
use Rattle.snap_yaml.proofs.Through.{typed_through}

-- a number that is kept as its digits is that number
kept-is : (b : Bool) (y z : ℤ) → (if b then t.value (p.int y) else t.real) ≡ t.value (p.int z) → (b ≡ true) × (y ≡ z)
kept-is true y z h = (refl, cc)
kept-is false y z h = absurd (cc)

kept : (z : ℤ) → IsNumber z → has_64_bits z ≡ false → (is_whole (signed_decimal z) ≡ true) × (number_in 10 (signed_decimal z) ≡ z)
kept z h wide =
    let w : List ℕ = signed_decimal z in
    let read : typed_yaml w ≡ v.real w = document-read off (p.int z) h ∙ ap (λ b. if b then v.integer z else v.real w) wide in
    kept-is (is_whole w) (number_in 10 w) z (ap plain_typed (sym read) ∙ sym (typed_through w) ∙ typed_word (p.int z) refl h)

whole-read : (b : Bool) (y z : ℤ) (w : List ℕ) → b ≡ true → y ≡ z → (if b then p.int y else p.text w) ≡ p.int z
whole-read true y z w h same = ap p.int same
whole-read false y z w h same = absurd (cc)

number-if : (b : Bool) (z : ℤ) (w : List ℕ) → (b ≡ false → (is_whole w ≡ true) × (number_in 10 w ≡ z)) → plain_read (if b then v.integer z else v.real w) ≡ Some (p.int z)
number-if true z w h = refl
number-if false z w h = let k = h refl in ap Some (whole-read (is_whole w) (number_in 10 w) z w k.0 k.1)

no-text-if : (b : Bool) (z : ℤ) (w : List ℕ) → (b ≡ false → (is_whole w ≡ true) × (number_in 10 w ≡ z)) → has_number_text (if b then v.integer z else v.real w) ≡ false
no-text-if true z w h = refl
no-text-if false z w h = ap not (h refl).0

one-item : (x : Option p.Plain) (o : Option p.Plains) (q : p.Plain) (qs : p.Plains) → x ≡ Some q → o ≡ Some qs → option_and_then (λ first. option_map (p.item first) o) x ≡ Some (p.item q qs)
one-item x o q qs is rest = rw (is, rest) refl

one-entry : (k x : Option p.Plain) (o : Option p.Entries) (key value : p.Plain) (es : p.Entries) → k ≡ Some key → x ≡ Some value → o ≡ Some es
    → option_and_then (λ a. option_and_then (λ b. option_map (p.entry a b) o) x) k ≡ Some (p.entry key value es)
one-entry k x o key value es is also rest = rw (is, also, rest) refl

mutual
  pub read-back : (x : p.Plain) → IsWithin x → plain_read (read_value x) ≡ Some x
  read-back p.null h = refl
  read-back (p.bool b) h = refl
  read-back (p.int z) h = number-if (has_64_bits z) z (signed_decimal z) (kept z h)
  read-back (p.text s) h = refl
  read-back (p.list items) h = ap (option_map p.list) (items-back items h)
  read-back (p.dict entries) h = ap (option_map p.dict) (entries-back entries h)

  items-back : (xs : p.Plains) → AreWithin xs → plains_read (read_values xs) ≡ Some xs
  items-back p.no_items h = refl
  items-back (p.item x xs) h = one-item (plain_read (read_value x)) (plains_read (read_values xs)) x xs (read-back x h.0) (items-back xs h.1)

  entries-back : (es : p.Entries) → AreEntriesWithin es → entries_read (read_pairs es) ≡ Some es
  entries-back p.no_entries h = refl
  entries-back (p.entry k x es) h =
      one-entry (plain_read (read_value k)) (plain_read (read_value x)) (entries_read (read_pairs es)) k x es (read-back k h.0) (read-back x h.1.0) (entries-back es h.1.1)

mutual
  pub no-number-text : (x : p.Plain) → IsWithin x → has_number_text (read_value x) ≡ false
  no-number-text p.null h = refl
  no-number-text (p.bool b) h = refl
  no-number-text (p.int z) h = no-text-if (has_64_bits z) z (signed_decimal z) (kept z h)
  no-number-text (p.text s) h = refl
  no-number-text (p.list items) h = no-item-text items h
  no-number-text (p.dict entries) h = no-entry-text entries h

  no-item-text : (xs : p.Plains) → AreWithin xs → have_number_texts (read_values xs) ≡ false
  no-item-text p.no_items h = refl
  no-item-text (p.item x xs) h = or_from (has_number_text (read_value x)) (have_number_texts (read_values xs)) (no-number-text x h.0) (no-item-text xs h.1)

  no-entry-text : (es : p.Entries) → AreEntriesWithin es → are_number_texts_in (read_pairs es) ≡ false
  no-entry-text p.no_entries h = refl
  no-entry-text (p.entry k x es) h =
      or_from (has_number_text (read_value k)) (has_number_text (read_value x) || are_number_texts_in (read_pairs es)) (no-number-text k h.0)
      (or_from (has_number_text (read_value x)) (are_number_texts_in (read_pairs es)) (no-number-text x h.1.0) (no-entry-text es h.1.1))
