-- How JSON texts begin, and that no NUL stands in them.
use Rattle.snap_mask.proofs.Prelude.{◌≡◌, ℕ, ◌<◌, ◌≤◌, ◌+◌, ◌%◌, ◌^◌, suc, ℤ, pos, negsuc, List, [], ◌∷◌, ◌++◌, Bool, true, false, ◌==◌, ◌&&◌, cond, nat_le, nat_lt, None, Some, refl, sym, ap, ◌∙◌, arith, ne_eqb, or_left, or_right, or_from, list_any, Plain, null, bool, int, text, list, dict, no_items, item, no_entries, entry, number_tree, content_of, IsWithin, IsNumber, IsJsonOf, text_at, Condensed, Lacks, IsCutAtFirst, beginning_at, beginning_in, beginning_of, digit_in_front, Number}
use Rattle.std.specs.Fmt.{decimal, signed_decimal}
use Rattle.std.proofs.lemmas.Bool.Decides.{nat_tests}
use Rattle.std.proofs.lemmas.Fmt.{decimal_by_steps_wide}
use Rattle.snap_content.specs.Tree as t
use Rattle.snap_json.specs.OneLine.{is_low}
use Rattle.snap_json.proofs.OneLine.{text_clear}

-- the text begins with a digit
abbrev BeginsWithDigit : List ℕ → Type 0
BeginsWithDigit [] = ⊥
BeginsWithDigit (c ∷ cs) = (48 ≤ c) × (c ≤ 57)

still_begins : (ds more : List ℕ) → BeginsWithDigit ds → BeginsWithDigit (ds ++ more)
still_begins [] more h = absurd h
still_begins (c ∷ cs) more h = h

decimal_begins : (n : ℕ) → n < 10 ^ 64 → BeginsWithDigit (decimal n)
decimal_begins n small =
    decimal_by_steps_wide (λ _ ds. BeginsWithDigit ds) (λ k below. (omega arith, omega (arith, below))) (λ k ds _ before. still_begins ds ((48 + k % 10) ∷ []) before) n small

other : {A : Type 0} (b : Bool) (x y : A) → b ≡ false → cond b x y ≡ y
other b x y h = ap (λ c. cond c x y) h

one : {A : Type 0} (b : Bool) (x y : A) → b ≡ true → cond b x y ≡ x
one b x y h = ap (λ c. cond c x y) h

is_digit : (c : ℕ) → 48 ≤ c → c ≤ 57 → (nat_le 48 c && nat_le c 57) ≡ true
is_digit c low high = grind (arith, nat_tests, low, high)

is_in_front : (ds : List ℕ) → BeginsWithDigit ds → digit_in_front ds ≡ true
is_in_front [] h = absurd h
is_in_front (c ∷ cs) h = is_digit c h.0 h.1

digit_is_number : (ds : List ℕ) → BeginsWithDigit ds → beginning_in ds ≡ Some Number
digit_is_number [] h = absurd h
digit_is_number (c ∷ cs) h =
    other (c == 32) (beginning_in cs) (beginning_at c cs) (ne_eqb c 32 (λ e. omega (arith, h.0, e)))
    ∙ other (c == 123) _ _ (ne_eqb c 123 (λ e. omega (arith, h.1, e)))
    ∙ other (c == 91) _ _ (ne_eqb c 91 (λ e. omega (arith, h.1, e)))
    ∙ other (c == 34) _ _ (ne_eqb c 34 (λ e. omega (arith, h.0, e)))
    ∙ other (c == 116) _ _ (ne_eqb c 116 (λ e. omega (arith, h.1, e)))
    ∙ other (c == 102) _ _ (ne_eqb c 102 (λ e. omega (arith, h.1, e)))
    ∙ other (c == 110) _ _ (ne_eqb c 110 (λ e. omega (arith, h.1, e)))
    ∙ one _ _ _ (ap digit_in_front (other (c == 45) cs (c ∷ cs) (ne_eqb c 45 (λ e. omega (arith, h.0, e)))) ∙ is_in_front (c ∷ cs) h)

number_begins : (z : ℤ) → IsNumber z → beginning_in (signed_decimal z) ≡ Some Number
number_begins (pos n) h = let small : n < 10 ^ 64 = omega (arith, h) in digit_is_number (decimal n) (decimal_begins n small)
number_begins (negsuc n) h =
    let small : suc n < 10 ^ 64 = omega (arith, h) in one (digit_in_front (decimal (suc n))) (Some Number) None (is_in_front (decimal (suc n)) (decimal_begins (suc n) small))

number_is_number : (z : ℤ) → beginning_of (number_tree z) ≡ Number
number_is_number (pos n) = by (nat_lt n (2 ^ 63)) (nat_lt n (2 ^ 64))
  where
    by : (small middle : Bool) → beginning_of (cond small (t.i64 (pos n)) (cond middle (t.u64 n) (t.u128 n))) ≡ Number
    by true middle = refl
    by false true = refl
    by false false = refl
number_is_number (negsuc n) = by (nat_lt n (2 ^ 63))
  where
    by : (small : Bool) → beginning_of (cond small (t.i64 (negsuc n)) (t.i128 (negsuc n))) ≡ Number
    by true = refl
    by false = refl

text_begins : (p : Plain) → IsWithin p → beginning_in (text_at Condensed 0 p) ≡ Some (beginning_of (content_of p))
text_begins null h = refl
text_begins (bool true) h = refl
text_begins (bool false) h = refl
text_begins (int z) h = number_begins z h ∙ ap Some (sym (number_is_number z))
text_begins (text s) h = refl
text_begins (list no_items) h = refl
text_begins (list (item q qs)) h = refl
text_begins (dict no_entries) h = refl
text_begins (dict (entry k v es)) h = refl

pub json_begins : (p : Plain) (line : List ℕ) → IsWithin p → IsJsonOf p line → beginning_in line ≡ Some (beginning_of (content_of p))
json_begins p line within json = ap beginning_in json.2 ∙ text_begins p within

-- NUL is below a blank
clear_lacks : (cs : List ℕ) → list_any is_low cs ≡ false → Lacks 0 cs
clear_lacks [] h = refl
clear_lacks (c ∷ cs) h = or_from (c == 0) _ (by c (or_left (is_low c) (list_any is_low cs) h)) (clear_lacks cs (or_right (is_low c) (list_any is_low cs) h))
  where
    by : (d : ℕ) → is_low d ≡ false → (d == 0) ≡ false
    by d e = grind (arith, nat_tests, e)

pub json_lacks : (p : Plain) (line : List ℕ) → IsWithin p → IsJsonOf p line → Lacks 0 line
json_lacks p line within json = ap (list_any (λ c. c == 0)) json.2 ∙ clear_lacks (text_at Condensed 0 p) (text_clear Condensed 0 p refl within)

pub holds_mark : (line before behind : List ℕ) → IsCutAtFirst 0 line before behind → Lacks 0 line → ⊥
holds_mark line before behind cut lacks = by before (sym (ap (list_any (λ c. c == 0)) cut.is) ∙ lacks)
  where
    by : (cs : List ℕ) → list_any (λ c. c == 0) (cs ++ 0 ∷ behind) ≡ false → ⊥
    by [] h = cc
    by (c ∷ cs) h = by cs (or_right (c == 0) (list_any (λ c. c == 0) (cs ++ 0 ∷ behind)) h)
