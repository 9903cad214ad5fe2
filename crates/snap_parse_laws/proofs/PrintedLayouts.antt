-- A printed form is a layout: the same text, and the same tokens.
use Rattle.snap_parse_laws.proofs.Prelude.{◌≡◌, ℕ, ◌+◌, ◌*◌, ◌/◌, ◌%◌, ◌<◌, List, [], ◌∷◌, ◌++◌, Bool, true, false, refl, sym, ap, ◌∙◌, arith, add-zero, append_assoc, append-nil, nat_lt, nat_le, length, nat_tests, ◌||◌, ◌==◌, if◌then◌else◌, flat_map, digit_glyph, is_code, escaped, escaped_code, blanks, and_parts, or_parts}
use Rattle.snap_scan_tokens.specs.declared.token.TokenType.{TokenType}
use Rattle.snap_scan_tokens.specs.declared.token.TokenType.TheVariants as k
use Rattle.snap_scan_tokens.specs.declared.token.TScalarStyle.TheVariants as style
use Rattle.snap_parse_laws.specs.Forms as form
use Rattle.snap_parse_laws.specs.Layouts as w
use Rattle.snap_parse_laws.specs.LayoutTexts as laid
use Rattle.snap_parse_laws.specs.LayoutRules as rule
use Rattle.snap_parse_laws.specs.LayoutTokens as t
use Rattle.snap_parse_laws.specs.PrintedLayouts as p
use Rattle.snap_parse_laws.specs.FormEndings.{ends_in_block, forms_end, entry_ends, entries_end}
use Rattle.snap_parse_laws.proofs.Escapes.{glyph}
use Rattle.snap_parse_laws.proofs.Quotes.{small-code}

-- a letter that stands for c, written as e
record IsWritten (a : w.Letter) (c : ℕ) (e : List ℕ) : Type 0 where
  text : laid.letter_text a ≡ e
  character : laid.character a ≡ c
  fits : rule.is_letter a ≡ true

-- both chains of tests go the same way
written-if : (c : ℕ) (b : Bool) (x y : w.Letter) (e f : List ℕ) → (b ≡ true → IsWritten x c e) → (b ≡ false → IsWritten y c f)
    → IsWritten (if b then x else y) c (if b then e else f)
written-if c true x y e f yes_ no_ = yes_ refl
written-if c false x y e f yes_ no_ = no_ refl

same-sign : (c a : ℕ) → (c == a) ≡ true → a ≡ c
same-sign c a h = grind (arith, nat_tests)

code-value : (c : ℕ) → (0 * 16 + c / 16) * 16 + c % 16 ≡ c
code-value c = omega arith

known-code : (c : ℕ) → c < 128 → is_code c ≡ true
known-code c small = let below : nat_lt c 55296 ≡ true = grind (arith, nat_tests) in rw below refl

written-code : (c : ℕ) → c < 128 → IsWritten (w.code 117 (48 ∷ 48 ∷ digit_glyph false (c / 16) ∷ digit_glyph false (c % 16) ∷ [])) c (escaped_code c)
written-code c small =
    let high = glyph (c / 16) (omega (arith, small)) in
    let low = glyph (c % 16) (omega (arith, small)) in
    let value : (0 * 16 + c / 16) * 16 + c % 16 ≡ c = code-value c in
    record {
      text = refl;
      character = rw (high.value, low.value) value;
      fits = rw (high.value, low.value, value) (known-code c small);
    }

written : (c : ℕ) → IsWritten (p.letter_of c) c (escaped c)
written c =
    written-if c (c == 34) _ _ _ _ (λ h. record { text = refl; character = same-sign c 34 h; fits = refl }) (λ quotes.
    written-if c (c == 92) _ _ _ _ (λ h. record { text = refl; character = same-sign c 92 h; fits = refl }) (λ slash.
    written-if c (c == 8) _ _ _ _ (λ h. record { text = refl; character = same-sign c 8 h; fits = refl }) (λ back.
    written-if c (c == 9) _ _ _ _ (λ h. record { text = refl; character = same-sign c 9 h; fits = refl }) (λ tab.
    written-if c (c == 10) _ _ _ _ (λ h. record { text = refl; character = same-sign c 10 h; fits = refl }) (λ feed.
    written-if c (c == 12) _ _ _ _ (λ h. record { text = refl; character = same-sign c 12 h; fits = refl }) (λ form_feed.
    written-if c (c == 13) _ _ _ _ (λ h. record { text = refl; character = same-sign c 13 h; fits = refl }) (λ return.
    written-if c (nat_lt c 32 || c == 127) _ _ _ _ (λ small. written-code c (small-code c small)) (λ large.
    let above : nat_lt c 32 ≡ false = (or_parts (nat_lt c 32) (c == 127) large).0 in
    let nul : (c == 0) ≡ false = grind (arith, nat_tests) in
    record { text = refl; character = refl; fits = rw (quotes, slash, feed, return, nul) refl }))))))))

record AreWritten (s : List ℕ) : Type 0 where
  text : laid.letters_text (p.letters_of s) ≡ flat_map escaped s ++ 34 ∷ []
  characters : laid.characters (p.letters_of s) ≡ s
  fit : rule.are_letters (p.letters_of s) ≡ true

all-written : (s : List ℕ) → AreWritten s
all-written [] = record { text = refl; characters = refl; fit = refl }
all-written (c ∷ s) =
    let one = written c in
    let rest = all-written s in
    record {
      text = rw (one.text, rest.text) (sym (append_assoc (escaped c) (flat_map escaped s) (34 ∷ [])));
      characters = rw (one.character, rest.characters) refl;
      fit = rw (one.fits, rest.fit) refl;
    }

same-spelling : (v : form.Scalar) → laid.spelled (p.scalar_of v) ≡ form.spelled v
same-spelling (form.bare u) = refl
same-spelling (form.quote s) = let f : List ℕ → List ℕ = λ x. 34 ∷ x in ap f (all-written s).text

same-token : (v : form.Scalar) → t.scalar_token (p.scalar_of v) ≡ form.scalar_token v
same-token (form.bare u) = refl
same-token (form.quote s) = let f : List ℕ → TokenType = λ x. k.Scalar style.DoubleQuoted x in ap f (all-written s).characters

scalar-fits : (v : form.Scalar) → form.is_scalar v ≡ true → rule.is_scalar (p.scalar_of v) ≡ true
scalar-fits (form.bare u) h = h
scalar-fits (form.quote s) h = (all-written s).fit

-- the texts

same-word : (v : form.Scalar) (rest : List ℕ) → laid.spelled (p.scalar_of v) ++ (10 ∷ rest) ≡ form.spelled v ++ 10 ∷ [] ++ rest
same-word v rest = rw (same-spelling v) (sym (append_assoc (form.spelled v) (10 ∷ []) rest))

mutual
  pub same-text : (f : form.Form) → form.IsNode f → (j : ℕ) (rest : List ℕ) → laid.layout_onto j (p.layout_of (w.next p.line) f) rest ≡ form.text_at j f ++ rest
  same-text (form.scalar v) node j rest = same-word v rest
  same-text (form.block u count more) node j rest = absurd node
  same-text (form.hollow q) node j rest = refl
  same-text (form.list ts) node j rest = let f : List ℕ → List ℕ = λ x. 45 ∷ x in ap f (same-items ts j rest)
  same-text (form.dict es) node j rest = same-entries es j rest

  -- after a mark
  same-item : (f : form.Form) (j : ℕ) (rest : List ℕ) → laid.item_onto j (p.item_of (w.next p.line) f) rest ≡ 32 ∷ (form.text_at (j + 1 + 1) f ++ rest)
  same-item (form.scalar v) j rest = let f : List ℕ → List ℕ = λ x. 32 ∷ x in ap f (same-word v rest)
  same-item (form.block u count more) j rest = refl
  same-item (form.hollow q) j rest = refl
  same-item (form.list ts) j rest = let f : List ℕ → List ℕ = λ x. 32 ∷ 45 ∷ x in rw (add-zero (j + 1 + 1)) (ap f (same-items ts (j + 1 + 1) rest))
  same-item (form.dict es) j rest = let f : List ℕ → List ℕ = λ x. 32 ∷ x in rw (add-zero (j + 1 + 1)) (ap f (same-entries es (j + 1 + 1) rest))

  same-items : (ts : form.Forms) (j : ℕ) (rest : List ℕ) → laid.items_onto j (p.items_of (w.next p.line) ts) rest ≡ 32 ∷ (form.inside j ts ++ rest)
  same-items (form.last f) j rest = same-item f j rest
  same-items (form.item f ts) j rest =
      let at : List ℕ → List ℕ = λ x. laid.item_onto j (p.item_of (w.next p.line) f) (blanks j ++ (45 ∷ x)) in
      ap at (same-items ts j rest) ∙ same-item f j (blanks j ++ (45 ∷ 32 ∷ (form.inside j ts ++ rest))) ∙ simp append_assoc

  same-value : (f : form.Form) (j : ℕ) (rest : List ℕ) → laid.value_onto j (p.value_of (w.next p.line) f) rest ≡ form.value_block j f (form.text_at (j + 1 + 1) f) ++ rest
  same-value (form.scalar v) j rest = let f : List ℕ → List ℕ = λ x. 32 ∷ x in ap f (same-word v rest)
  same-value (form.block u count more) j rest = refl
  same-value (form.hollow q) j rest = refl
  same-value (form.list ts) j rest =
      let at : List ℕ → List ℕ = λ x. 10 ∷ (blanks (j + 1 + 1) ++ (45 ∷ x)) in ap at (same-items ts (j + 1 + 1) rest) ∙ simp append_assoc
  same-value (form.dict es) j rest =
      let at : List ℕ → List ℕ = λ x. 10 ∷ (blanks (j + 1 + 1) ++ x) in ap at (same-entries es (j + 1 + 1) rest) ∙ simp append_assoc

  same-entry : (e : form.Entry) (j : ℕ) (rest : List ℕ) → laid.entry_onto j (p.entry_of (w.next p.line) e) rest ≡ form.entry_at j e ++ rest
  same-entry (form.simple v f) j rest =
      let at : List ℕ → List ℕ = λ x. x ++ (58 ∷ laid.value_onto j (p.value_of (w.next p.line) f) rest) in
      let by : List ℕ → List ℕ = λ x. form.spelled v ++ (58 ∷ x) in
      ap at (same-spelling v) ∙ ap by (same-value f j rest) ∙ simp append_assoc
  same-entry (form.complex q f) j rest =
      let at : List ℕ → List ℕ = λ x. 63 ∷ laid.item_onto j (p.item_of (w.next p.line) q) (blanks j ++ (58 ∷ x)) in
      let by : List ℕ → List ℕ = λ x. 63 ∷ x in
      ap at (same-item f j rest) ∙ ap by (same-item q j (blanks j ++ (58 ∷ 32 ∷ (form.text_at (j + 1 + 1) f ++ rest)))) ∙ simp append_assoc

  same-entries : (es : form.Entries) (j : ℕ) (rest : List ℕ) → laid.entries_onto j (p.entries_of (w.next p.line) es) rest ≡ form.entries_at j es ++ rest
  same-entries (form.only e) j rest = same-entry e j rest
  same-entries (form.pair e es) j rest =
      let at : List ℕ → List ℕ = λ x. laid.entry_onto j (p.entry_of (w.next p.line) e) (blanks j ++ x) in
      ap at (same-entries es j rest) ∙ same-entry e j (blanks j ++ (form.entries_at j es ++ rest)) ∙ simp append_assoc

-- the same without the end of the last line, where that is none of a block

open-word : (v : form.Scalar) → laid.spelled (p.scalar_of v) ++ [] ++ 10 ∷ [] ≡ form.spelled v ++ 10 ∷ []
open-word v = rw (append-nil (laid.spelled (p.scalar_of v)), same-spelling v) refl

mutual
  open-text : (f : form.Form) → form.IsNode f → ends_in_block f ≡ false → (j : ℕ) → laid.layout_onto j (p.layout_of w.unended f) [] ++ 10 ∷ [] ≡ form.text_at j f
  open-text (form.scalar v) node free j = open-word v
  open-text (form.block u count more) node free j = absurd node
  open-text (form.hollow q) node free j = refl
  open-text (form.list ts) node free j = let f : List ℕ → List ℕ = λ x. 45 ∷ x in ap f (open-items ts free j)
  open-text (form.dict es) node free j = open-entries es free j

  open-item : (f : form.Form) → ends_in_block f ≡ false → (j : ℕ) → laid.item_onto j (p.item_of w.unended f) [] ++ 10 ∷ [] ≡ 32 ∷ form.text_at (j + 1 + 1) f
  open-item (form.scalar v) free j = let f : List ℕ → List ℕ = λ x. 32 ∷ x in ap f (open-word v)
  open-item (form.block u count more) free j = absurd (cc)
  open-item (form.hollow q) free j = refl
  open-item (form.list ts) free j = let f : List ℕ → List ℕ = λ x. 32 ∷ 45 ∷ x in rw (add-zero (j + 1 + 1)) (ap f (open-items ts free (j + 1 + 1)))
  open-item (form.dict es) free j = let f : List ℕ → List ℕ = λ x. 32 ∷ x in rw (add-zero (j + 1 + 1)) (ap f (open-entries es free (j + 1 + 1)))

  open-items : (ts : form.Forms) → forms_end ts ≡ false → (j : ℕ) → laid.items_onto j (p.items_of w.unended ts) [] ++ 10 ∷ [] ≡ 32 ∷ form.inside j ts
  open-items (form.last f) free j = open-item f free j
  open-items (form.item f ts) free j =
      let rest : List ℕ = laid.items_onto j (p.items_of w.unended ts) [] in
      let fed : List ℕ → List ℕ = λ x. x ++ 10 ∷ [] in
      let at : List ℕ → List ℕ = λ x. 32 ∷ (form.text_at (j + 1 + 1) f ++ (blanks j ++ (45 ∷ x))) in
      let split : (32 ∷ (form.text_at (j + 1 + 1) f ++ (blanks j ++ (45 ∷ rest)))) ++ 10 ∷ [] ≡ at (rest ++ 10 ∷ []) = simp append_assoc in
      ap fed (same-item f j (blanks j ++ (45 ∷ rest))) ∙ split ∙ ap at (open-items ts free j)

  open-value : (f : form.Form) → ends_in_block f ≡ false → (j : ℕ) → laid.value_onto j (p.value_of w.unended f) [] ++ 10 ∷ [] ≡ form.value_block j f (form.text_at (j + 1 + 1) f)
  open-value (form.scalar v) free j = let f : List ℕ → List ℕ = λ x. 32 ∷ x in ap f (open-word v)
  open-value (form.block u count more) free j = absurd (cc)
  open-value (form.hollow q) free j = refl
  open-value (form.list ts) free j =
      let rest : List ℕ = laid.items_onto (j + 1 + 1) (p.items_of w.unended ts) [] in
      let at : List ℕ → List ℕ = λ x. 10 ∷ (blanks (j + 1 + 1) ++ (45 ∷ x)) in
      let feed : List ℕ → List ℕ = λ x. 10 ∷ x in
      ap feed (append_assoc (blanks (j + 1 + 1)) (45 ∷ rest) (10 ∷ [])) ∙ ap at (open-items ts free (j + 1 + 1))
  open-value (form.dict es) free j =
      let rest : List ℕ = laid.entries_onto (j + 1 + 1) (p.entries_of w.unended es) [] in
      let at : List ℕ → List ℕ = λ x. 10 ∷ (blanks (j + 1 + 1) ++ x) in
      let feed : List ℕ → List ℕ = λ x. 10 ∷ x in
      ap feed (append_assoc (blanks (j + 1 + 1)) rest (10 ∷ [])) ∙ ap at (open-entries es free (j + 1 + 1))

  open-entry : (e : form.Entry) → entry_ends e ≡ false → (j : ℕ) → laid.entry_onto j (p.entry_of w.unended e) [] ++ 10 ∷ [] ≡ form.entry_at j e
  open-entry (form.simple v f) free j =
      let rest : List ℕ = laid.value_onto j (p.value_of w.unended f) [] in
      let key : List ℕ → List ℕ = λ x. x ++ (58 ∷ rest) ++ 10 ∷ [] in
      let at : List ℕ → List ℕ = λ x. form.spelled v ++ (58 ∷ x) in
      ap key (same-spelling v) ∙ append_assoc (form.spelled v) (58 ∷ rest) (10 ∷ []) ∙ ap at (open-value f free j)
  open-entry (form.complex q f) free j =
      let rest : List ℕ = laid.item_onto j (p.item_of w.unended f) [] in
      let fed : List ℕ → List ℕ = λ x. 63 ∷ (x ++ 10 ∷ []) in
      let at : List ℕ → List ℕ = λ x. 63 ∷ 32 ∷ (form.text_at (j + 1 + 1) q ++ (blanks j ++ (58 ∷ x))) in
      let split : 63 ∷ ((32 ∷ (form.text_at (j + 1 + 1) q ++ (blanks j ++ (58 ∷ rest)))) ++ 10 ∷ []) ≡ at (rest ++ 10 ∷ []) = simp append_assoc in
      ap fed (same-item q j (blanks j ++ (58 ∷ rest))) ∙ split ∙ ap at (open-item f free j)

  open-entries : (es : form.Entries) → entries_end es ≡ false → (j : ℕ) → laid.entries_onto j (p.entries_of w.unended es) [] ++ 10 ∷ [] ≡ form.entries_at j es
  open-entries (form.only e) free j = open-entry e free j
  open-entries (form.pair e es) free j =
      let rest : List ℕ = laid.entries_onto j (p.entries_of w.unended es) [] in
      let fed : List ℕ → List ℕ = λ x. x ++ 10 ∷ [] in
      let at : List ℕ → List ℕ = λ x. form.entry_at j e ++ (blanks j ++ x) in
      let split : form.entry_at j e ++ (blanks j ++ rest) ++ 10 ∷ [] ≡ at (rest ++ 10 ∷ []) = simp append_assoc in
      ap fed (same-entry e j (blanks j ++ rest)) ∙ split ∙ ap at (open-entries es free j)

-- the tokens

mutual
  pub same-tokens : (r : w.Rest) (f : form.Form) → t.layout_tokens (p.layout_of r f) ≡ form.tokens_of f
  same-tokens r (form.scalar v) = let f : TokenType → List TokenType = λ x. x ∷ [] in ap f (same-token v)
  same-tokens r (form.block u count more) = refl
  same-tokens r (form.hollow q) = refl
  same-tokens r (form.list ts) = let f : List TokenType → List TokenType = λ x. k.BlockSequenceStart ∷ k.BlockEntry ∷ (x ++ k.BlockEnd ∷ []) in ap f (tokens-items r ts)
  same-tokens r (form.dict es) = let f : List TokenType → List TokenType = λ x. k.BlockMappingStart ∷ (x ++ k.BlockEnd ∷ []) in ap f (tokens-entries r es)

  tokens-item : (r : w.Rest) (f : form.Form) → t.item_tokens (p.item_of r f) ≡ form.tokens_of f
  tokens-item r (form.scalar v) = let f : TokenType → List TokenType = λ x. x ∷ [] in ap f (same-token v)
  tokens-item r (form.block u count more) = refl
  tokens-item r (form.hollow q) = refl
  tokens-item r (form.list ts) = let f : List TokenType → List TokenType = λ x. k.BlockSequenceStart ∷ k.BlockEntry ∷ (x ++ k.BlockEnd ∷ []) in ap f (tokens-items r ts)
  tokens-item r (form.dict es) = let f : List TokenType → List TokenType = λ x. k.BlockMappingStart ∷ (x ++ k.BlockEnd ∷ []) in ap f (tokens-entries r es)

  tokens-items : (r : w.Rest) (ts : form.Forms) → t.items_tokens (p.items_of r ts) ≡ form.inside_tokens ts
  tokens-items r (form.last f) = tokens-item r f
  tokens-items r (form.item f ts) = rw (tokens-item (w.next p.line) f, tokens-items r ts) refl

  tokens-value : (r : w.Rest) (f : form.Form) → t.value_tokens (p.value_of r f) ≡ form.tokens_of f
  tokens-value r (form.scalar v) = let f : TokenType → List TokenType = λ x. x ∷ [] in ap f (same-token v)
  tokens-value r (form.block u count more) = refl
  tokens-value r (form.hollow q) = refl
  tokens-value r (form.list ts) = let f : List TokenType → List TokenType = λ x. k.BlockSequenceStart ∷ k.BlockEntry ∷ (x ++ k.BlockEnd ∷ []) in ap f (tokens-items r ts)
  tokens-value r (form.dict es) = let f : List TokenType → List TokenType = λ x. k.BlockMappingStart ∷ (x ++ k.BlockEnd ∷ []) in ap f (tokens-entries r es)

  tokens-entry : (r : w.Rest) (e : form.Entry) → t.entry_tokens (p.entry_of r e) ≡ form.entry_tokens e
  tokens-entry r (form.simple v f) = rw (same-token v, tokens-value r f) refl
  tokens-entry r (form.complex q f) = rw (tokens-item (w.next p.line) q, tokens-item r f) refl

  tokens-entries : (r : w.Rest) (es : form.Entries) → t.entries_tokens (p.entries_of r es) ≡ form.entries_tokens es
  tokens-entries r (form.only e) = tokens-entry r e
  tokens-entries r (form.pair e es) = rw (tokens-entry (w.next p.line) e, tokens-entries r es) refl

-- what must hold of it

key-fits : (v : form.Scalar) → form.is_key v ≡ true → rule.is_key (p.scalar_of v) ≡ true
key-fits v h =
    let two = and_parts (form.is_scalar v) (nat_le (length (form.spelled v)) 1024) h in
    let short : nat_le (length (laid.spelled (p.scalar_of v))) 1024 ≡ true = rw (same-spelling v) two.1 in
    rw (scalar-fits v two.0, short) refl

mutual
  pub layout-fits : (f : form.Form) (e : rule.Position) (r : w.Rest) → rule.IsRest e r → form.IsPrintable f → rule.IsLayout e (p.layout_of r f)
  layout-fits (form.scalar v) e r ends is = (scalar-fits v is, ends)
  layout-fits (form.block u count more) e r ends is = is
  layout-fits (form.hollow q) e r ends is = ends
  layout-fits (form.list ts) e r ends is = items-fit ts e r ends is
  layout-fits (form.dict es) e r ends is = entries-fit es e r ends is

  item-fits : (f : form.Form) (e : rule.Position) (r : w.Rest) → rule.IsRest e r → form.IsPrintable f → rule.IsItem e (p.item_of r f)
  item-fits (form.scalar v) e r ends is = (scalar-fits v is, ends)
  item-fits (form.block u count more) e r ends is = is
  item-fits (form.hollow q) e r ends is = ends
  item-fits (form.list ts) e r ends is = items-fit ts e r ends is
  item-fits (form.dict es) e r ends is = entries-fit es e r ends is

  items-fit : (ts : form.Forms) (e : rule.Position) (r : w.Rest) → rule.IsRest e r → form.ArePrintable ts → rule.AreItems e (p.items_of r ts)
  items-fit (form.last f) e r ends is = item-fits f e r ends is
  items-fit (form.item f ts) e r ends is = (item-fits f rule.inside (w.next p.line) refl is.0, items-fit ts e r ends is.1)

  value-fits : (f : form.Form) (e : rule.Position) (r : w.Rest) → rule.IsRest e r → form.IsPrintable f → rule.IsValue e (p.value_of r f)
  value-fits (form.scalar v) e r ends is = (scalar-fits v is, ends)
  value-fits (form.block u count more) e r ends is = is
  value-fits (form.hollow q) e r ends is = ends
  value-fits (form.list ts) e r ends is = (refl, items-fit ts e r ends is)
  value-fits (form.dict es) e r ends is = (refl, entries-fit es e r ends is)

  entry-fits : (t : form.Entry) (e : rule.Position) (r : w.Rest) → rule.IsRest e r → form.IsEntry t → rule.IsEntry e (p.entry_of r t)
  entry-fits (form.simple v f) e r ends is = (key-fits v is.0, value-fits f e r ends is.1)
  entry-fits (form.complex q f) e r ends is = (item-fits q rule.inside (w.next p.line) refl is.0, item-fits f e r ends is.1)

  entries-fit : (es : form.Entries) (e : rule.Position) (r : w.Rest) → rule.IsRest e r → form.AreEntries es → rule.AreEntries e (p.entries_of r es)
  entries-fit (form.only t) e r ends is = entry-fits t e r ends is
  entries-fit (form.pair t es) e r ends is = (entry-fits t rule.inside (w.next p.line) refl is.0, entries-fit es e r ends is.1)

pub printed-is-laid : (f : form.Form) → form.IsPrintable f → rule.IsDocument (p.printed_document f)
printed-is-laid f is = (refl, layout-fits f rule.ending (w.next p.line) refl is)

pub dumped-is-laid : (f : form.Form) → form.IsPrintable f → rule.IsDocument (p.dumped_document f)
dumped-is-laid f is = (refl, layout-fits f rule.ending w.unended refl is)

-- a printed document is the text of its layout
pub printed-text : (f : form.Form) → form.IsNode f → laid.document_text (p.printed_document f) ≡ form.document_at f
printed-text f node =
    let after : List ℕ → List ℕ = λ x. 45 ∷ 45 ∷ 45 ∷ 10 ∷ x in
    ap after (same-text f node 0 [] ∙ append-nil (form.text_at 0 f))

-- so is one without its last line's end
pub dumped-text : (f : form.Form) → form.IsNode f → ends_in_block f ≡ false → laid.document_text (p.dumped_document f) ++ 10 ∷ [] ≡ form.document_at f
dumped-text f node free = let after : List ℕ → List ℕ = λ x. 45 ∷ 45 ∷ 45 ∷ 10 ∷ x in ap after (open-text f node free 0)
