-- Each document of a demonstration spells its request.
use Rattle.snap_demo.proofs.Prelude.{◌≡◌, ℕ, zero, suc, pos, ◌+◌, ◌/◌, ◌%◌, ◌*◌, ◌^◌, ◌<◌, ◌≤◌, List, [], ◌∷◌, ◌++◌, Bool, true, false, ◌||◌, ◌==◌, Some, refl, sym, ap, ◌∙◌, subst, inl, inr, arith, nat_tests, ◌⊎◌, list_any, concat, scalars, encodes, decimal, if◌then◌else◌, codes, append_assoc, next_of, demo_file, demo_name, tag_of, tags_from, demo_value, demo_tree, demo_text, demo_document, documents_from}
use Rattle.std.proofs.lemmas.Bool.{lt-ltb}
use Rattle.std.proofs.lemmas.Str.{chars-encodes}
use Rattle.snap_assert_place.specs.Place.{names_file, last_part, holds_slash}
use Rattle.snap_content.specs.Plain.{Plain, null, bool, int, text, list, dict, Plains, no_items, item, Entries, no_entries, entry, content_of, pairs_made}
use Rattle.snap_content.specs.Tree.{TreePairs}
use Rattle.snap_fields.specs.Fields.{tree_line, line_number}
use Rattle.snap_print.specs.Blocks.{off}
use Rattle.snap_print.proofs.Rows.{printed-rows}
use Rattle.snap_print.specs.Readable.{IsWithin, AreWithin, AreEntriesWithin}
use Rattle.snap_run_requests.specs.Cut.{documents, begins_document}
use Rattle.snap_run_requests.specs.Keys.{times, assertion_table}
use Rattle.snap_run_requests.specs.Requests.{Spells, IsAssertion}
use Rattle.snap_run_requests.specs.declared.key.Key.{Key}
use Rattle.snap_run_requests.specs.declared.key.Key.TheVariants.{Module, File, Line, Name, Function, Suffix, Expr, Value, Redactions, Sort, At, Put, Duplicates}
use Rattle.snap_demo.specs.Requests.{note_of, demo_request, demo_assertion}
use Rattle.snap_demo.specs.Stream.{requests_from, SpellEach}
use Rattle.snap_demo.proofs.Documents.{documents_one, printed_is_one, printed_begins}
use Rattle.snap_demo.proofs.Scalars.{HasCharacters, HaveCharacters, EntriesHaveCharacters, joined, decimal_scalars, lines_scalars, document_scalars}

-- what is of characters is within
mutual
  within : (p : Plain) → HasCharacters p → IsWithin p
  within null h = tt
  within (bool b) h = tt
  within (int z) h = h
  within (text s) h = tt
  within (list items) h = all_within items h
  within (dict entries) h = entries_within entries h

  all_within : (ps : Plains) → HaveCharacters ps → AreWithin ps
  all_within no_items h = tt
  all_within (item p ps) h = (within p h.0, all_within ps h.1)

  entries_within : (es : Entries) → EntriesHaveCharacters es → AreEntriesWithin es
  entries_within no_entries h = tt
  entries_within (entry k v es) h = (within k h.0, (within v h.1.0, entries_within es h.1.1))

-- the numbers stay below 2 ^ 64
pub next_below : (x : ℕ) → next_of x < 2 ^ 64
next_below x = omega arith

tags_characters : (k n : ℕ) → k + n < 2 ^ 64 → HaveCharacters (tags_from k n)
tags_characters k zero small = tt
tags_characters k (suc n) small =
    let digits : k < 10 ^ 64 = omega (arith, small) in
    let more : (k + 1) + n < 2 ^ 64 = omega (arith, small) in
    (joined (codes "t") (decimal k) refl (decimal_scalars k digits), tags_characters (k + 1) n more)

note_characters : (a b c : Bool) → scalars (if a then codes "plain" else (if b then codes "0o17" else (if c then codes "two words" else codes "a: b"))) ≡ true
note_characters true b c = refl
note_characters false true c = refl
note_characters false false true = refl
note_characters false false false = refl

file_characters : (i : ℕ) → i < 2 ^ 64 → scalars (demo_file i) ≡ true
file_characters i small =
    let digits : i / 100 < 10 ^ 64 = omega (arith, small) in
    joined (codes "src/d") (decimal (i / 100) ++ codes "/demo.rs") refl (joined (decimal (i / 100)) (codes "/demo.rs") (decimal_scalars (i / 100) digits) refl)

name_characters : (i : ℕ) → i < 2 ^ 64 → scalars (demo_name i) ≡ true
name_characters i small = let digits : i < 10 ^ 64 = omega (arith, small) in joined (codes "r") (decimal i) refl (decimal_scalars i digits)

value_characters : (i x : ℕ) → i < 2 ^ 64 → x < 2 ^ 64 → HasCharacters (demo_value i x)
value_characters i x small below =
    let place : i < 2 ^ 128 = omega (arith, small) in
    let number : x < 2 ^ 128 = omega (arith, below) in
    let few : 0 + x % 4 < 2 ^ 64 = omega arith in
    let k = x / 4 % 4 in
    (refl, (place, (refl, (number, (refl, (tags_characters 0 (x % 4) few, (refl, (note_characters (k == 0) (k == 1) (k == 2), tt))))))))

pub request_characters : (i x : ℕ) → i < 2 ^ 32 → x < 2 ^ 64 → HasCharacters (demo_tree i x)
request_characters i x small below =
    let wide : i < 2 ^ 64 = omega (arith, small) in
    let line : i + 1 < 2 ^ 128 = omega (arith, small) in
    (refl, (refl, (refl, (file_characters i wide, (refl, (line, (refl, (name_characters i wide, (refl, (refl, (refl, (value_characters i x wide below, tt))))))))))))

-- the file is the path of one

slash_behind : (xs ys : List ℕ) → holds_slash (xs ++ 47 ∷ ys) ≡ true
slash_behind [] ys = refl
slash_behind (x ∷ xs) ys = or_true (x == 47) (holds_slash (xs ++ 47 ∷ ys)) (slash_behind xs ys)
  where
    or_true : (a b : Bool) → b ≡ true → (a || b) ≡ true
    or_true true b e = refl
    or_true false b e = e

last_behind : (xs ys : List ℕ) → holds_slash ys ≡ false → last_part (xs ++ 47 ∷ ys) ≡ ys
last_behind [] ys none = ap (λ b. if b then last_part ys else ys) none
last_behind (x ∷ xs) ys none =
    ap (λ b. if b then last_part (xs ++ 47 ∷ ys) else (if x == 47 then xs ++ 47 ∷ ys else x ∷ xs ++ 47 ∷ ys)) (slash_behind xs ys) ∙ last_behind xs ys none

file_named : (i : ℕ) → names_file (demo_file i) ≡ true
file_named i =
    let last : last_part (demo_file i) ≡ codes "demo.rs" =
    ap last_part (sym (append_assoc (codes "src/d") (decimal (i / 100)) (codes "/demo.rs"))) ∙ last_behind (codes "src/d" ++ decimal (i / 100)) (codes "demo.rs") refl in
    rw last refl

line_told : (n : ℕ) → n < 2 ^ 32 → tree_line (content_of (int (pos n))) ≡ Some n
line_told n small =
    let narrow : n < 2 ^ 63 = omega (arith, small) in
    rw (lt-ltb n (2 ^ 63) narrow, lt-ltb n (2 ^ 32) small) refl

-- the pairs of a request's tree
abbrev entries_in : Plain → Entries
entries_in (dict es) = es
entries_in _ = no_entries

abbrev pairs_at : ℕ → ℕ → TreePairs
pairs_at i x = pairs_made (entries_in (demo_tree i x))

once : (i x : ℕ) (key : Key) → times key (pairs_at i x) ≤ 1
once i x Module = omega arith
once i x File = omega arith
once i x Line = omega arith
once i x Name = omega arith
once i x Function = omega arith
once i x Suffix = omega arith
once i x Expr = omega arith
once i x Value = omega arith
once i x Redactions = omega arith
once i x Sort = omega arith
once i x At = omega arith
once i x Put = omega arith
once i x Duplicates = omega arith

is_assertion : (i x : ℕ) → i + 1 < 2 ^ 32 → IsAssertion (content_of (demo_tree i x)) (demo_assertion i x)
is_assertion i x small = record {
  pairs = pairs_at i x;
  is = refl;
  no_block = refl;
  keyed = record { known = refl; once = once i x };
  module_name = refl;
  file = refl;
  line = line_told (i + 1) small;
  name = refl;
  function = refl;
  called = refl;
  suffix = refl;
  expr = refl;
  value = refl;
  redactions = refl;
  sort = refl;
  of_file = file_named i;
}

pub spells_its_request : (i x : ℕ) → i + 1 < 2 ^ 32 → x < 2 ^ 64 → Spells (demo_document i x) (demo_request i x)
spells_its_request i x small below =
    let place : i < 2 ^ 32 = omega (arith, small) in
    let characters = request_characters i x place below in
    let whole = document_scalars (demo_tree i x) characters in
    record {
      utf8 = (demo_text i x, (whole, refl));
      tree = demo_tree i x;
      within = within (demo_tree i x) characters;
      text = inl (record { blocks = off; text_is = chars-encodes (demo_text i x) whole });
      request_is = is_assertion i x small;
    }

pub all_spell : (i x n : ℕ) → i + n < 2 ^ 32 → x < 2 ^ 64 → SpellEach (documents_from i x n) (requests_from i x n)
all_spell i x zero small below = tt
all_spell i x (suc n) small below =
    let place : i + 1 < 2 ^ 32 = omega (arith, small) in
    let more : (i + 1) + n < 2 ^ 32 = omega (arith, small) in
    (spells_its_request i x place below, all_spell (i + 1) (next_of x) n more (next_below x))

-- the documents are cut where they were put together

next_begins : (i x n : ℕ) → (concat (documents_from i x n) ≡ []) ⊎ (begins_document (concat (documents_from i x n)) ≡ true)
next_begins i x zero = inl refl
next_begins i x (suc n) = inr (printed_begins (demo_tree i x) (concat (documents_from (i + 1) (next_of x) n)))

pub cut_again : (i x n : ℕ) → i + n < 2 ^ 32 → x < 2 ^ 64 → documents (concat (documents_from i x n)) ≡ documents_from i x n
cut_again i x zero small below = refl
cut_again i x (suc n) small below =
    let place : i < 2 ^ 32 = omega (arith, small) in
    let more : (i + 1) + n < 2 ^ 32 = omega (arith, small) in
    let characters = request_characters i x place below in
    let rest = documents_from (i + 1) (next_of x) n in
    documents_one (demo_document i x) (concat rest)
    (printed_is_one (demo_tree i x) (lines_scalars (demo_tree i x) characters) (printed-rows off (demo_tree i x) (within (demo_tree i x) characters)))
    (next_begins (i + 1) (next_of x) n)
    ∙ ap (λ ds. demo_document i x ∷ ds) (cut_again (i + 1) (next_of x) n more (next_below x))
