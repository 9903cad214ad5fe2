-- Each word is typed as the scalar that it spells.
use Rattle.snap_print.proofs.Prelude.{◌≡◌, ℕ, suc, ◌<◌, ◌≤◌, ◌^◌, ℤ, pos, negsuc, List, [], ◌∷◌, Bool, true, false, ◌==◌, ◌||◌, ◌&&◌, not, cond, drop, refl, sym, ap, ◌∙◌, arith, nat_tests, decimal_is_IsNumeral_wide, is_ascii_digit, decimal, signed_decimal, list_any, list_all, codes, bytes_eq, is_digits, is_integer_text, is_number_text, is_float_text, is_octal_text, is_plus_text, is_plus_inf, needs_quotes, starts_badly, ends_badly, starts_as_hexadecimal, is_special, is_reserved, is_leading, is_word, IsWithin, IsNumber, spelling, not_true, both_second, both_first, false_from_ne_true, and_from, or_from}
use Rattle.std.specs.Str.Parse.{digits_value}
use Rattle.snap_content.specs.Plain as p
use Rattle.snap_print.specs.Typed.{Typed, value, typed, number_in, below_zero, has_128_bits, is_hexadecimal_text, is_hexadecimal_integer, is_null_word, is_inf_word, is_named_number}
use Rattle.snap_print.proofs.Digits.{decimal_digits, low_end, wide, wide_negative}
use Rattle.snap_print.proofs.Tests.{absurd_tests, apart, no_and, and_no}
use Rattle.snap_print.proofs.Words.{same_word, integer, no_number_no_integer}

-- the tests of `typed`, one after the other
layers : (x o q n t f i r : Bool) (hx ho hp hn ht hf hi hr rest : Typed) → x ≡ false → o ≡ false → q ≡ false → n ≡ false → t ≡ false → f ≡ false → i ≡ false → r ≡ false
    → cond x hx (cond o ho (cond q hp (cond n hn (cond t ht (cond f hf (cond i hi (cond r hr rest))))))) ≡ rest
layers x o q n t f i r hx ho hp hn ht hf hi hr rest ex eo eq en et ef ei er = rw (ex, eo, eq, en, et, ef, ei, er) refl

up_to_integer : (x o q n t f i : Bool) (hx ho hp hn ht hf hi rest : Typed) → x ≡ false → o ≡ false → q ≡ false → n ≡ false → t ≡ false → f ≡ false → i ≡ true
    → cond x hx (cond o ho (cond q hp (cond n hn (cond t ht (cond f hf (cond i hi rest)))))) ≡ hi
up_to_integer x o q n t f i hx ho hp hn ht hf hi rest ex eo eq en et ef ei = rw (ex, eo, eq, en, et, ef, ei) refl

differs : (w v : List ℕ) (test : List ℕ → Bool) (b c : Bool) → test w ≡ b → test v ≡ c → b ≡ not c → bytes_eq w v ≡ false
differs w v test b c here there opposite = false_from_ne_true (bytes_eq w v) (λ same. clash b c (sym here ∙ ap test (same_word w v same) ∙ there) opposite)
  where
    clash : (b c : Bool) → b ≡ c → b ≡ not c → ⊥
    clash true true h k = absurd (cc)
    clash true false h k = absurd (cc)
    clash false true h k = absurd (cc)
    clash false false h k = absurd (cc)

-- what is known of a bare text, beside what its reading needs
record IsUntyped (s : List ℕ) : Type 0 where
  start : starts_badly s ≡ false
  no_hexadecimal : starts_as_hexadecimal s ≡ false
  no_number : is_number_text s ≡ false

parts : (a b c d e f : Bool) → (a || b || c || d || e || f) ≡ false → (a ≡ false) × ((c ≡ false) × (f ≡ false))
parts true b c d e f h = absurd (cc)
parts false true c d e f h = absurd (cc)
parts false false true d e f h = absurd (cc)
parts false false false true e f h = absurd (cc)
parts false false false false true f h = absurd (cc)
parts false false false false false true h = absurd (cc)
parts false false false false false false h = (refl, (refl, refl))

untyped : (s : List ℕ) → needs_quotes s ≡ false → IsUntyped s
untyped s h =
    let found = parts (starts_badly s) (ends_badly s) (starts_as_hexadecimal s) (list_any is_special s) (is_reserved s) (is_number_text s) h in
    record { start = found.0; no_hexadecimal = found.1.0; no_number = found.1.1 }

numbers : (a b c d : Bool) → (a || b || c || d) ≡ false → (a ≡ false) × ((b ≡ false) × ((c ≡ false) × (d ≡ false)))
numbers true b c d h = absurd (cc)
numbers false true c d h = absurd (cc)
numbers false false true d h = absurd (cc)
numbers false false false true h = absurd (cc)
numbers false false false false h = (refl, (refl, (refl, refl)))

three : (a b c : Bool) → a ≡ false → b ≡ false → c ≡ false → (a || b || c) ≡ false
three a b c h k l = rw (h, k, l) refl

four : (a b c d : Bool) → a ≡ false → b ≡ false → c ≡ false → d ≡ false → (a || b || c || d) ≡ false
four a b c d h k l m = rw (h, k, l, m) refl

unquoted_apart : (s v : List ℕ) → needs_quotes s ≡ false → needs_quotes v ≡ true → bytes_eq s v ≡ false
unquoted_apart s v h k = differs s v needs_quotes false true h k refl

inf_word : (test : Bool) (c : ℕ) (cs : List ℕ) → needs_quotes (c ∷ cs) ≡ false → (c == 43 || c == 45) ≡ test → (c == 45) ≡ false → is_plus_inf (c ∷ cs) ≡ false
    → cond test (is_inf_word cs) (is_inf_word (c ∷ cs)) ≡ false
inf_word false c cs h sign minus plus =
    three (bytes_eq (c ∷ cs) (codes ".inf")) (bytes_eq (c ∷ cs) (codes ".Inf")) (bytes_eq (c ∷ cs) (codes ".INF"))
    (unquoted_apart (c ∷ cs) (codes ".inf") h refl) (unquoted_apart (c ∷ cs) (codes ".Inf") h refl) (unquoted_apart (c ∷ cs) (codes ".INF") h refl)
inf_word true c cs h sign minus plus = behind (c == 43) (c == 45) (is_inf_word cs) sign minus plus
  where
    behind : (a b d : Bool) → (a || b) ≡ true → b ≡ false → (a && d) ≡ false → d ≡ false
    behind true b d h k l = l
    behind false true d h k l = absurd (cc)
    behind false false d h k l = absurd (cc)

no_name : (s : List ℕ) → needs_quotes s ≡ false → starts_badly s ≡ false → is_plus_inf s ≡ false → is_named_number s ≡ false
no_name [] h start plus = refl
no_name (c ∷ cs) h start plus =
    four (cond (c == 43 || c == 45) (is_inf_word cs) (is_inf_word (c ∷ cs))) (bytes_eq (c ∷ cs) (codes ".nan")) (bytes_eq (c ∷ cs) (codes "NaN")) (bytes_eq (c ∷ cs) (codes ".NAN"))
    (inf_word (c == 43 || c == 45) c cs h refl (apart is_leading c 45 start refl) plus)
    (unquoted_apart (c ∷ cs) (codes ".nan") h refl) (unquoted_apart (c ∷ cs) (codes "NaN") h refl) (unquoted_apart (c ∷ cs) (codes ".NAN") h refl)

-- a bare text is typed as that text
pub typed_bare : (s : List ℕ) → needs_quotes s ≡ false → typed s ≡ value (p.text s)
typed_bare s h =
    let u = untyped s h in
    let n = numbers (is_float_text s) (is_octal_text s) (is_plus_text s) (is_plus_inf s) u.no_number in
    layers (is_hexadecimal_text s) (is_octal_text s) (is_plus_text s) (is_null_word s) (bytes_eq s (codes "true")) (bytes_eq s (codes "false"))
    (is_integer_text s && has_128_bits (number_in 10 s)) (is_float_text s || is_named_number s) _ _ _ _ _ _ _ _ _
    (no_and (starts_as_hexadecimal s) (is_hexadecimal_integer (drop 2 s)) u.no_hexadecimal) n.1.0 n.1.1.0
    (or_from (bytes_eq s (codes "~")) (bytes_eq s (codes "null")) (unquoted_apart s (codes "~") h refl) (unquoted_apart s (codes "null") h refl))
    (unquoted_apart s (codes "true") h refl) (unquoted_apart s (codes "false") h refl)
    (no_and (is_integer_text s) (has_128_bits (number_in 10 s)) (no_number_no_integer s u.no_number))
    (or_from (is_float_text s) (is_named_number s) n.0 (no_name s h u.start n.1.1.1))

-- digits
bits : (n : ℕ) → n < 2 ^ 128 → has_128_bits (pos n) ≡ true
bits n h = grind (arith, nat_tests)

negative_bits : (n : ℕ) → n < 2 ^ 127 → has_128_bits (negsuc n) ≡ true
negative_bits n h = grind (arith, nat_tests)

apart_low : (c d : ℕ) → 48 ≤ c → d < 48 → (c == d) ≡ false
apart_low c d low high = grind (arith, nat_tests)

number_of_digits : (cs : List ℕ) (n : ℕ) → is_digits cs ≡ true → digits_value 10 cs ≡ n → number_in 10 cs ≡ pos n
number_of_digits [] n h is = absurd (cc)
number_of_digits (c ∷ cs) n h is =
    let low = low_end c (both_first (is_ascii_digit c) (list_all is_ascii_digit cs) h) in
    rw (apart_low c 45 low (omega arith), apart_low c 43 low (omega arith)) (ap pos is)

number_is : (z : ℤ) → IsNumber z → number_in 10 (signed_decimal z) ≡ z
number_is (pos n) h = number_of_digits (decimal n) n (decimal_digits n (wide n h)) (decimal_is_IsNumeral_wide n (wide n h)).1
number_is (negsuc n) h = ap below_zero (decimal_is_IsNumeral_wide (suc n) (wide_negative n h)).1

in_range : (z : ℤ) → IsNumber z → has_128_bits z ≡ true
in_range (pos n) h = bits n h
in_range (negsuc n) h = negative_bits n h

-- digits begin neither `0x` nor `0o`, nor with a plus
second_digit : (cs : List ℕ) (test : ℕ → Bool) (c d : ℕ) → is_ascii_digit c ≡ true → is_ascii_digit d ≡ false → (c == d) ≡ false
second_digit cs test c d h k = false_from_ne_true (c == d) (λ same. absurd_tests (is_ascii_digit c) h (ap is_ascii_digit (equal c d same) ∙ k))
  where
    equal : (c d : ℕ) → (c == d) ≡ true → c ≡ d
    equal c d h = grind (arith, nat_tests)

no_hexadecimal_digits : (cs : List ℕ) → is_digits cs ≡ true → is_hexadecimal_text cs ≡ false
no_hexadecimal_digits [] h = refl
no_hexadecimal_digits (c ∷ []) h = refl
no_hexadecimal_digits (c ∷ d ∷ cs) h =
    let rest = both_second (is_ascii_digit c) (list_all is_ascii_digit (d ∷ cs)) h in
    no_and (c == 48 && d == 120) (is_hexadecimal_integer cs)
    (and_no (c == 48) (d == 120) (second_digit cs is_ascii_digit d 120 (both_first (is_ascii_digit d) (list_all is_ascii_digit cs) rest) refl))

no_octal_digits : (cs : List ℕ) → is_digits cs ≡ true → is_octal_text cs ≡ false
no_octal_digits [] h = refl
no_octal_digits (c ∷ []) h = refl
no_octal_digits (c ∷ d ∷ cs) h =
    let rest = both_second (is_ascii_digit c) (list_all is_ascii_digit (d ∷ cs)) h in
    no_and (c == 48 && d == 111) _ (and_no (c == 48) (d == 111) (second_digit cs is_ascii_digit d 111 (both_first (is_ascii_digit d) (list_all is_ascii_digit cs) rest) refl))

no_plus_digits : (cs : List ℕ) → is_digits cs ≡ true → is_plus_text cs ≡ false
no_plus_digits [] h = refl
no_plus_digits (c ∷ cs) h =
    no_and (c == 43) _ (apart_low c 43 (low_end c (both_first (is_ascii_digit c) (list_all is_ascii_digit cs) h)) (omega arith))

no_minus_octal : (cs : List ℕ) → is_octal_text (45 ∷ cs) ≡ false
no_minus_octal [] = refl
no_minus_octal (d ∷ cs) = refl

no_minus_hexadecimal : (cs : List ℕ) → is_hexadecimal_text (45 ∷ cs) ≡ false
no_minus_hexadecimal [] = refl
no_minus_hexadecimal (d ∷ cs) = refl

record IsPlainNumber (w : List ℕ) : Type 0 where
  no_hexadecimal : is_hexadecimal_text w ≡ false
  no_octal : is_octal_text w ≡ false
  no_plus : is_plus_text w ≡ false

plain_number : (z : ℤ) → IsNumber z → IsPlainNumber (signed_decimal z)
plain_number (pos n) h =
    let digits = decimal_digits n (wide n h) in
    record { no_hexadecimal = no_hexadecimal_digits (decimal n) digits; no_octal = no_octal_digits (decimal n) digits; no_plus = no_plus_digits (decimal n) digits }
plain_number (negsuc n) h = record { no_hexadecimal = no_minus_hexadecimal (decimal (suc n)); no_octal = no_minus_octal (decimal (suc n)); no_plus = refl }

typed_number : (z : ℤ) → IsNumber z → typed (signed_decimal z) ≡ value (p.int z)
typed_number z h =
    let w = signed_decimal z in
    let plain = plain_number z h in
    let whole = integer z h in
    let is = number_is z h in
    let ranged : has_128_bits (number_in 10 w) ≡ true = ap has_128_bits is ∙ in_range z h in
    up_to_integer (is_hexadecimal_text w) (is_octal_text w) (is_plus_text w) (is_null_word w) (bytes_eq w (codes "true")) (bytes_eq w (codes "false"))
    (is_integer_text w && has_128_bits (number_in 10 w)) _ _ _ _ _ _ _ _ plain.no_hexadecimal plain.no_octal plain.no_plus
    (or_from (bytes_eq w (codes "~")) (bytes_eq w (codes "null")) (differs w (codes "~") is_integer_text true false whole refl refl) (differs w (codes "null") is_integer_text true false whole refl refl))
    (differs w (codes "true") is_integer_text true false whole refl refl) (differs w (codes "false") is_integer_text true false whole refl refl)
    (and_from (is_integer_text w) (has_128_bits (number_in 10 w)) whole ranged)
    ∙ ap (λ n. value (p.int n)) is

-- each word is typed as the scalar that is spelled so
pub typed_word : (t : p.Plain) → is_word t ≡ true → IsWithin t → typed (spelling t) ≡ value t
typed_word p.null h k = refl
typed_word (p.bool true) h k = refl
typed_word (p.bool false) h k = refl
typed_word (p.int z) h k = typed_number z k
typed_word (p.text s) h k = let b = not_true (needs_quotes s) h in rw b (typed_bare s b)
typed_word (p.list _) h k = absurd (cc)
typed_word (p.dict _) h k = absurd (cc)
