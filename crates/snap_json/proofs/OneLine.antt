-- No character below a blank stands in a text on one line.
use Rattle.snap_json.proofs.Prelude.{◌≡◌, ℕ, suc, ◌+◌, ◌<◌, ◌^◌, ◌/◌, ◌%◌, ℤ, pos, negsuc, List, [], ◌∷◌, ◌++◌, Bool, true, false, ◌==◌, nat_lt, if◌then◌else◌, refl, arith, decimal, signed_decimal, digit_glyph, list_any, flat_map, codes, or_left, or_right, Plain, null, bool, int, text, list, dict, Plains, no_items, item, Entries, no_entries, entry, opening, closing, comma, colon, json_escaped, json_string, text_at, items_at, entries_at, key_text, member_text, Format, Condensed, SingleLine, Pretty}
use Rattle.std.proofs.lemmas.Bool.Decides.{nat_tests}
use Rattle.std.proofs.lemmas.Fmt.{decimal_by_steps_wide}
use Rattle.snap_print.specs.Readable.{IsNumber, IsWithin, AreWithin, AreEntriesWithin}
use Rattle.snap_print.specs.Spell.{spell_bool, escaped_code}
use Rattle.snap_json.specs.OneLine.{is_low, is_one_line}
use Rattle.std.proofs.lemmas.Bool.{or_from}

abbrev Clear : List ℕ → Type 0
Clear s = list_any is_low s ≡ false

both : (a b : List ℕ) → Clear a → Clear b → Clear (a ++ b)
both [] b h k = k
both (c ∷ cs) b h k =
    or_from (is_low c) (list_any is_low (cs ++ b)) (or_left (is_low c) (list_any is_low cs) h) (both cs b (or_right (is_low c) (list_any is_low cs) h) k)

either : (b : Bool) (x y : List ℕ) → Clear x → Clear y → Clear (if b then x else y)
either true x y h k = h
either false x y h k = k

glyph_above : (d : ℕ) → is_low (digit_glyph false d) ≡ false
glyph_above d = grind (arith, nat_tests)

code_clear : (c : ℕ) → Clear (escaped_code c)
code_clear c =
    or_from (is_low (digit_glyph false (c / 16))) (list_any is_low (digit_glyph false (c % 16) ∷ [])) (glyph_above (c / 16))
    (or_from (is_low (digit_glyph false (c % 16))) false (glyph_above (c % 16)) refl)

coded : (c : ℕ) (low : Bool) → nat_lt c 32 ≡ low → Clear (if low then escaped_code c else c ∷ [])
coded c true h = code_clear c
coded c false h = or_from (is_low c) false h refl

escaped_clear : (c : ℕ) → Clear (json_escaped c)
escaped_clear c =
    either (c == 34) (codes "\\\"") _ refl (either (c == 92) (codes "\\\\") _ refl (either (c == 8) (codes "\\b") _ refl
    (either (c == 9) (codes "\\t") _ refl (either (c == 10) (codes "\\n") _ refl (either (c == 12) (codes "\\f") _ refl
    (either (c == 13) (codes "\\r") _ refl (coded c (nat_lt c 32) refl)))))))

escapes_clear : (s : List ℕ) → Clear (flat_map json_escaped s)
escapes_clear [] = refl
escapes_clear (c ∷ cs) = both (json_escaped c) (flat_map json_escaped cs) (escaped_clear c) (escapes_clear cs)

string_clear : (s : List ℕ) → Clear (json_string s)
string_clear s = both (flat_map json_escaped s) (34 ∷ []) (escapes_clear s) refl

digit_above : (k : ℕ) → is_low (48 + k) ≡ false
digit_above k = grind (arith, nat_tests)

digits_clear : (n : ℕ) → n < 10 ^ 64 → Clear (decimal n)
digits_clear n small =
    decimal_by_steps_wide (λ _ ds. Clear ds) (λ k below. or_from (is_low (48 + k)) false (digit_above k) refl)
    (λ k ds _ before. both ds ((48 + k % 10) ∷ []) before (or_from (is_low (48 + k % 10)) false (digit_above (k % 10)) refl)) n small

number_clear : (z : ℤ) → IsNumber z → Clear (signed_decimal z)
number_clear (pos n) h = let small : n < 10 ^ 64 = omega (arith, h) in digits_clear n small
number_clear (negsuc n) h = let small : suc n < 10 ^ 64 = omega (arith, h) in digits_clear (suc n) small

bool_clear : (b : Bool) → Clear (spell_bool b)
bool_clear true = refl
bool_clear false = refl

list_opens : (f : Format) (k : ℕ) → is_one_line f ≡ true → Clear (opening f k 91)
list_opens Condensed k h = refl
list_opens SingleLine k h = refl
list_opens Pretty k h = cc

list_closes : (f : Format) (k : ℕ) → is_one_line f ≡ true → Clear (closing f k 93)
list_closes Condensed k h = refl
list_closes SingleLine k h = refl
list_closes Pretty k h = cc

dict_opens : (f : Format) (k : ℕ) → is_one_line f ≡ true → Clear (opening f k 123)
dict_opens Condensed k h = refl
dict_opens SingleLine k h = refl
dict_opens Pretty k h = cc

dict_closes : (f : Format) (k : ℕ) → is_one_line f ≡ true → Clear (closing f k 125)
dict_closes Condensed k h = refl
dict_closes SingleLine k h = refl
dict_closes Pretty k h = cc

comma_clear : (f : Format) (k : ℕ) → is_one_line f ≡ true → Clear (comma f k)
comma_clear Condensed k h = refl
comma_clear SingleLine k h = refl
comma_clear Pretty k h = cc

colon_clear : (f : Format) → Clear (colon f)
colon_clear Condensed = refl
colon_clear SingleLine = refl
colon_clear Pretty = refl

key_clear : (key : Plain) → Clear (key_text key)
key_clear null = refl
key_clear (bool b) = refl
key_clear (int z) = refl
key_clear (text s) = string_clear s
key_clear (list ps) = refl
key_clear (dict es) = refl

member_clear : (f : Format) (key : Plain) → Clear (member_text f key)
member_clear f key = both (key_text key) (colon f) (key_clear key) (colon_clear f)

mutual
  pub text_clear : (f : Format) (k : ℕ) (p : Plain) → is_one_line f ≡ true → IsWithin p → Clear (text_at f k p)
  text_clear f k null h within = refl
  text_clear f k (bool b) h within = bool_clear b
  text_clear f k (int z) h within = number_clear z within
  text_clear f k (text s) h within = string_clear s
  text_clear f k (list no_items) h within = refl
  text_clear f k (list (item p ps)) h within =
      both (opening f (k + 2) 91) (text_at f (k + 2) p ++ (items_at f (k + 2) ps ++ closing f k 93)) (list_opens f (k + 2) h)
      (both (text_at f (k + 2) p) (items_at f (k + 2) ps ++ closing f k 93) (text_clear f (k + 2) p h within.0)
      (both (items_at f (k + 2) ps) (closing f k 93) (items_clear f (k + 2) ps h within.1) (list_closes f k h)))
  text_clear f k (dict no_entries) h within = refl
  text_clear f k (dict (entry key p es)) h within =
      both (opening f (k + 2) 123) ((member_text f key ++ text_at f (k + 2) p) ++ (entries_at f (k + 2) es ++ closing f k 125)) (dict_opens f (k + 2) h)
      (both (member_text f key ++ text_at f (k + 2) p) (entries_at f (k + 2) es ++ closing f k 125)
      (both (member_text f key) (text_at f (k + 2) p) (member_clear f key) (text_clear f (k + 2) p h within.1.0))
      (both (entries_at f (k + 2) es) (closing f k 125) (entries_clear f (k + 2) es h within.1.1) (dict_closes f k h)))

  items_clear : (f : Format) (k : ℕ) (ps : Plains) → is_one_line f ≡ true → AreWithin ps → Clear (items_at f k ps)
  items_clear f k no_items h within = refl
  items_clear f k (item p ps) h within =
      both (comma f k ++ text_at f k p) (items_at f k ps) (both (comma f k) (text_at f k p) (comma_clear f k h) (text_clear f k p h within.0))
      (items_clear f k ps h within.1)

  entries_clear : (f : Format) (k : ℕ) (es : Entries) → is_one_line f ≡ true → AreEntriesWithin es → Clear (entries_at f k es)
  entries_clear f k no_entries h within = refl
  entries_clear f k (entry key p es) h within =
      both (comma f k ++ (member_text f key ++ text_at f k p)) (entries_at f k es)
      (both (comma f k) (member_text f key ++ text_at f k p) (comma_clear f k h)
      (both (member_text f key) (text_at f k p) (member_clear f key) (text_clear f k p h within.1.0)))
      (entries_clear f k es h within.1.1)
