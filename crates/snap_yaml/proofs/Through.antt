-- A reader of trees types each scalar as a loader does, and takes kept numbers for whole ones where they are.
use Rattle.snap_yaml.proofs.Prelude.{◌≡◌, ℕ, zero, suc, ◌+◌, ◌-◌, ◌*◌, ◌^◌, ◌≤◌, ℤ, pos, negsuc, List, [], ◌∷◌, Bool, true, false, ◌||◌, ◌&&◌, not, Option, Some, None, if◌then◌else◌, nat_lt, refl, sym, ap, ◌∙◌, arith, drop, ◌==◌, nat_le, codes, digit_value, is_ascii_digit, list_all, bytes_eq, digits_value, digits_value_after, nat_tests, is_digits_in, is_integer_in, integer_of, prefixed_number, is_real_text, integer_or, typed_number, typed_word, typed_yaml, and_from, and_parts}
use Rattle.snap_content.specs.Numbers as n
use Rattle.snap_content.specs.Plain as p
use Rattle.snap_print.specs.Typed as t
use Rattle.snap_print.proofs.Digits.{digits_decimal}
use Rattle.snap_yaml.specs.Value as v
use Rattle.snap_yaml.specs.Through.{plain_typed}

grouped : (a b c : Bool) → (a && (b && c)) ≡ ((a && b) && c)
grouped true b c = refl
grouped false b c = refl

-- digits whose number stays within a limit, as a test of the digits and one of the number
digit_same : (base c : ℕ) → base ≤ 10 → n.digit_in base c ≡ nat_lt (digit_value c) base
digit_same base c most = grind (arith, nat_tests)

digit_is : (base c : ℕ) → base ≤ 10 → nat_lt (digit_value c) base ≡ true → c - 48 ≡ digit_value c
digit_is base c most h = grind (arith, nat_tests)

grows : (base m : ℕ) (cs : List ℕ) → ((k : ℕ) → k ≤ k * base) → m ≤ digits_value_after base m cs
grows base m [] more = omega arith
grows base m (c ∷ cs) more = omega (arith, more m, grows base (m * base + digit_value c) cs more)

le_along : (a b limit : ℕ) → a ≤ b → nat_le b limit ≡ true → nat_le a limit ≡ true
le_along a b limit less h = grind (arith, nat_tests)

dropped : (a l f : Bool) → (f ≡ true → a ≡ true) → (a && (l && f)) ≡ (l && f)
dropped true l f h = refl
dropped false true true h = h refl
dropped false true false h = refl
dropped false false f h = refl

stays_at : (d : Bool) (base limit m c : ℕ) (cs : List ℕ) → base ≤ 10 → ((k : ℕ) → k ≤ k * base) → nat_lt (digit_value c) base ≡ d
    → n.stays_within base limit (m * base + (c - 48)) cs ≡ (list_all (λ e. nat_lt (digit_value e) base) cs && nat_le (digits_value_after base (m * base + (c - 48)) cs) limit)
    → (nat_le m limit && (d && n.stays_within base limit (m * base + (c - 48)) cs))
    ≡ ((d && list_all (λ e. nat_lt (digit_value e) base) cs) && nat_le (digits_value_after base (m * base + digit_value c) cs) limit)
stays_at true base limit m c cs most more is rest =
    let all : Bool = list_all (λ e. nat_lt (digit_value e) base) cs in
    let f : ℕ → Bool = λ k. all && nat_le (digits_value_after base (m * base + k) cs) limit in
    let g : Bool → Bool = λ b. nat_le m limit && b in
    let grown : m ≤ digits_value_after base (m * base + digit_value c) cs = omega (arith, more m, grows base (m * base + digit_value c) cs more) in
    ap g (rest ∙ ap f (digit_is base c most is))
    ∙ dropped (nat_le m limit) all (nat_le (digits_value_after base (m * base + digit_value c) cs) limit)
    (le_along m (digits_value_after base (m * base + digit_value c) cs) limit grown)
stays_at false base limit m c cs most more is rest = no (nat_le m limit)
  where
    no : (a : Bool) → (a && false) ≡ false
    no true = refl
    no false = refl

stays : (base limit m : ℕ) (cs : List ℕ) → base ≤ 10 → ((k : ℕ) → k ≤ k * base)
    → n.stays_within base limit m cs ≡ (list_all (λ e. nat_lt (digit_value e) base) cs && nat_le (digits_value_after base m cs) limit)
stays base limit m [] most more = refl
stays base limit m (c ∷ cs) most more =
    let f : Bool → Bool = λ d. nat_le m limit && (d && n.stays_within base limit (m * base + (c - 48)) cs) in
    ap f (digit_same base c most)
    ∙ stays_at (nat_lt (digit_value c) base) base limit m c cs most more refl (stays base limit (m * base + (c - 48)) cs most more)

within : (base limit : ℕ) (cs : List ℕ) → base ≤ 10 → ((k : ℕ) → k ≤ k * base) → n.is_number_within base limit cs ≡ (is_digits_in base cs && nat_le (digits_value base cs) limit)
within base limit cs most more =
    let f : Bool → Bool = λ b. not (n.is_nothing cs) && b in
    ap f (stays base limit 0 cs most more)
    ∙ grouped (not (n.is_nothing cs)) (list_all (λ e. nat_lt (digit_value e) base) cs) (nat_le (digits_value base cs) limit)

-- numbers of 64 bits
negative_fits : (m : ℕ) → nat_le m (2 ^ 63) ≡ t.has_64_bits (t.below_zero m)
negative_fits zero = refl
negative_fits (suc m) = grind (arith, nat_tests)

positive_fits : (m : ℕ) → nat_le m (2 ^ 63 - 1) ≡ t.has_64_bits (pos m)
positive_fits m = grind (arith, nat_tests)

short_at : (m p : Bool) (base c : ℕ) (cs : List ℕ) → base ≤ 10 → ((k : ℕ) → k ≤ k * base)
    → (if m then n.is_number_within base (2 ^ 63) cs else (if p then n.is_number_within base (2 ^ 63 - 1) cs else n.is_number_within base (2 ^ 63 - 1) (c ∷ cs)))
    ≡ ((if p || m then is_digits_in base cs else is_digits_in base (c ∷ cs))
    && t.has_64_bits (if m then t.below_zero (digits_value base cs) else (if p then pos (digits_value base cs) else pos (digits_value base (c ∷ cs)))))
short_at true true base c cs most more = within base (2 ^ 63) cs most more ∙ ap (λ b. is_digits_in base cs && b) (negative_fits (digits_value base cs))
short_at true false base c cs most more = within base (2 ^ 63) cs most more ∙ ap (λ b. is_digits_in base cs && b) (negative_fits (digits_value base cs))
short_at false true base c cs most more = within base (2 ^ 63 - 1) cs most more ∙ ap (λ b. is_digits_in base cs && b) (positive_fits (digits_value base cs))
short_at false false base c cs most more =
    within base (2 ^ 63 - 1) (c ∷ cs) most more ∙ ap (λ b. is_digits_in base (c ∷ cs) && b) (positive_fits (digits_value base (c ∷ cs)))

short : (base : ℕ) (cs : List ℕ) → base ≤ 10 → ((k : ℕ) → k ≤ k * base) → n.is_short_integer base cs ≡ is_integer_in base cs
short base [] most more = refl
short base (c ∷ cs) most more = short_at (c == 45) (c == 43) base c cs most more

short_octal : (cs : List ℕ) → n.is_short_integer 8 cs ≡ is_integer_in 8 cs
short_octal cs = short 8 cs (omega arith) (λ k. omega arith)

short_decimal : (cs : List ℕ) → n.is_short_integer 10 cs ≡ is_integer_in 10 cs
short_decimal cs = short 10 cs (omega arith) (λ k. omega arith)

hexadecimal : (cs : List ℕ) → t.is_hexadecimal_integer cs ≡ is_integer_in 16 cs
hexadecimal [] = refl
hexadecimal (c ∷ cs) = refl

-- the spellings after a mark
abbrev or_typed : Option ℤ → t.Typed → t.Typed
or_typed None rest = rest
or_typed (Some z) rest = t.value (p.int z)

abbrev chosen : Bool → ℤ → Option ℤ
chosen b z = if b then Some z else None

layers : (a b x o h q s : Bool) (zh zo zp : ℤ) (rest : t.Typed) → (a ≡ true → b ≡ true → ⊥) → (x ≡ true → o ≡ true → ⊥)
    → (if (b && x) && h then t.value (p.int zh) else (if (b && o) && q then t.value (p.int zo) else (if a && s then t.value (p.int zp) else rest)))
    ≡ or_typed (if a then chosen s zp else (if b then (if x then chosen h zh else (if o then chosen q zo else None)) else None)) rest
layers true true x o h q s zh zo zp rest one other = absurd (one refl refl)
layers true false x o h q true zh zo zp rest one other = refl
layers true false x o h q false zh zo zp rest one other = refl
layers false false x o h q s zh zo zp rest one other = refl
layers false true true true h q s zh zo zp rest one other = absurd (other refl refl)
layers false true true false true q s zh zo zp rest one other = refl
layers false true true false false q s zh zo zp rest one other = refl
layers false true false true h true s zh zo zp rest one other = refl
layers false true false true h false s zh zo zp rest one other = refl
layers false true false false h q s zh zo zp rest one other = refl

single : (a b : Bool) (rest : t.Typed) → (if a && false then t.value (p.int (pos 0)) else rest) ≡ or_typed (if a then None else (if b then None else None)) rest
single true true rest = refl
single true false rest = refl
single false true rest = refl
single false false rest = refl

apart : (c a b : ℕ) → (a == b) ≡ false → (c == a) ≡ true → (c == b) ≡ true → ⊥
apart c a b differ h k = grind (arith, nat_tests)

marked : (w : List ℕ) (rest : t.Typed)
    → (if t.is_hexadecimal_text w then t.value (p.int (t.number_in 16 (drop 2 w))) else (
    if n.is_octal_text w then t.value (p.int (t.number_in 8 (drop 2 w))) else (
    if n.is_plus_text w then t.value (p.int (t.number_in 10 (drop 1 w))) else rest)))
    ≡ or_typed (prefixed_number w) rest
marked [] rest = refl
marked (c ∷ []) rest = single (c == 43) (c == 48) rest
marked (c ∷ d ∷ cs) rest =
    rw (hexadecimal cs, short_octal cs, short_decimal (d ∷ cs))
    (layers (c == 43) (c == 48) (d == 120) (d == 111) (is_integer_in 16 cs) (is_integer_in 8 cs) (is_integer_in 10 (d ∷ cs))
    (t.number_in 16 cs) (t.number_in 8 cs) (t.number_in 10 (d ∷ cs)) rest (apart c 43 48 refl) (apart d 120 111 refl))

-- a whole number is a number
pub digit_test : (c : ℕ) → nat_lt (digit_value c) 10 ≡ is_ascii_digit c
digit_test c = grind (arith, nat_tests)

all_digits : (cs : List ℕ) → list_all (λ c. nat_lt (digit_value c) 10) cs ≡ list_all is_ascii_digit cs
all_digits [] = refl
all_digits (c ∷ cs) =
    ap (λ b. b && list_all (λ e. nat_lt (digit_value e) 10) cs) (digit_test c) ∙ ap (λ b. is_ascii_digit c && b) (all_digits cs)

same_digits : (cs : List ℕ) → is_digits_in 10 cs ≡ n.is_digits cs
same_digits [] = refl
same_digits (c ∷ cs) = all_digits (c ∷ cs)

if_along : (s : Bool) (a b x y : Bool) → a ≡ x → b ≡ y → (if s then a else b) ≡ true → (if s then x else y) ≡ true
if_along true a b x y e f h = sym e ∙ h
if_along false a b x y e f h = sym f ∙ h

wider : (z : ℤ) → t.has_64_bits z ≡ true → t.has_128_bits z ≡ true
wider (pos m) h = grind (arith, nat_tests)
wider (negsuc m) h = grind (arith, nat_tests)

is_whole : (w : List ℕ) → is_integer_in 10 w ≡ true → (n.is_integer_text w && t.has_128_bits (t.number_in 10 w)) ≡ true
is_whole [] h = absurd (cc)
is_whole (c ∷ cs) h =
    let q = and_parts (if c == 43 || c == 45 then is_digits_in 10 cs else is_digits_in 10 (c ∷ cs)) (t.has_64_bits (t.number_in 10 (c ∷ cs))) h in
    and_from (n.is_integer_text (c ∷ cs)) (t.has_128_bits (t.number_in 10 (c ∷ cs)))
    (if_along (c == 43 || c == 45) (is_digits_in 10 cs) (is_digits_in 10 (c ∷ cs)) (n.is_digits cs) (n.is_digits (c ∷ cs)) (same_digits cs) (same_digits (c ∷ cs)) q.0)
    (wider (t.number_in 10 (c ∷ cs)) q.1)

signed_decimal : (s : Bool) (c : ℕ) (cs : List ℕ) → (if s then n.is_digits cs else n.is_digits (c ∷ cs)) ≡ true → n.is_decimal_text (if s then cs else c ∷ cs) ≡ true
signed_decimal true c cs h = digits_decimal cs h
signed_decimal false c cs h = digits_decimal (c ∷ cs) h

first : (a b d e : Bool) → a ≡ true → ((a || b || d) || e) ≡ true
first true b d e h = refl
first false b d e h = absurd (cc)

is_number : (w : List ℕ) → n.is_integer_text w ≡ true → is_real_text w ≡ true
is_number [] h = absurd (cc)
is_number (c ∷ cs) h =
    first (n.is_decimal_text (n.past_sign (c ∷ cs))) (n.ends_infinity (n.past_inf (n.past_sign (c ∷ cs)))) (n.is_end (n.past_nan (n.past_sign (c ∷ cs)))) (t.is_named_number (c ∷ cs))
    (signed_decimal (c == 43 || c == 45) c cs h)

-- numbers and texts
numbers : (i k r : Bool) (z : ℤ) (text : t.Typed) → (i ≡ true → k ≡ true) → (k ≡ true → r ≡ true)
    → (if k then t.value (p.int z) else (if r then t.real else text)) ≡ or_typed (chosen i z) (if r then (if k then t.value (p.int z) else t.real) else text)
numbers true true r z text whole number = refl
numbers true false r z text whole number = absurd (let e = whole refl in cc)
numbers false true true z text whole number = refl
numbers false true false z text whole number = absurd (let e = number refl in cc)
numbers false false true z text whole number = refl
numbers false false false z text whole number = refl

through_if : (b : Bool) (x y : v.Value) → (if b then plain_typed x else plain_typed y) ≡ plain_typed (if b then x else y)
through_if true x y = refl
through_if false x y = refl

through_or : (o : Option ℤ) (x : v.Value) → or_typed o (plain_typed x) ≡ plain_typed (integer_or o x)
through_or None x = refl
through_or (Some z) x = refl

number_through : (w : List ℕ)
    → (if n.is_integer_text w && t.has_128_bits (t.number_in 10 w) then t.value (p.int (t.number_in 10 w)) else (if n.is_float_text w || t.is_named_number w then t.real else t.value (p.text w)))
    ≡ plain_typed (typed_number w)
number_through w =
    let k : Bool = n.is_integer_text w && t.has_128_bits (t.number_in 10 w) in
    numbers (is_integer_in 10 w) k (is_real_text w) (t.number_in 10 w) (t.value (p.text w)) (is_whole w)
    (λ h. is_number w (and_parts (n.is_integer_text w) (t.has_128_bits (t.number_in 10 w)) h).0)
    ∙ ap (or_typed (integer_of 10 w)) (through_if (is_real_text w) (v.real w) (v.string w)) ∙ through_or (integer_of 10 w) (if is_real_text w then v.real w else v.string w)

word_through : (w : List ℕ)
    → (if t.is_null_word w then t.value p.null else (
    if bytes_eq w (codes "true") then t.value (p.bool true) else (
    if bytes_eq w (codes "false") then t.value (p.bool false) else plain_typed (typed_number w))))
    ≡ plain_typed (typed_word w)
word_through w =
    let f : t.Typed → t.Typed = λ x. if t.is_null_word w then t.value p.null else (if bytes_eq w (codes "true") then t.value (p.bool true) else x) in
    let g : t.Typed → t.Typed = λ x. if t.is_null_word w then t.value p.null else x in
    let no : v.Value = if bytes_eq w (codes "false") then v.boolean false else typed_number w in
    ap f (through_if (bytes_eq w (codes "false")) (v.boolean false) (typed_number w)) ∙ ap g (through_if (bytes_eq w (codes "true")) (v.boolean true) no)
    ∙ through_if (t.is_null_word w) v.null (if bytes_eq w (codes "true") then v.boolean true else no)

pub typed_through : (w : List ℕ) → t.typed w ≡ plain_typed (typed_yaml w)
typed_through w =
    let words : t.Typed → t.Typed = λ x.
    if t.is_null_word w then t.value p.null else (
    if bytes_eq w (codes "true") then t.value (p.bool true) else (
    if bytes_eq w (codes "false") then t.value (p.bool false) else x)) in
    let number : t.Typed =
    if n.is_integer_text w && t.has_128_bits (t.number_in 10 w) then t.value (p.int (t.number_in 10 w)) else (if n.is_float_text w || t.is_named_number w then t.real else t.value (p.text w)) in
    marked w (words number) ∙ ap (or_typed (prefixed_number w)) (ap words (number_through w) ∙ word_through w) ∙ through_or (prefixed_number w) (typed_word w)
