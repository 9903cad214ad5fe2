-- Digits: what they are not, and the numbers that are written with them.
use Rattle.snap_print.proofs.Prelude.{◌≡◌, ℕ, zero, suc, ◌<◌, ◌≤◌, ◌+◌, ◌-◌, ◌^◌, ◌%◌, List, [], ◌∷◌, ◌++◌, true, false, ◌==◌, ◌||◌, refl, ap, ◌∙◌, arith, nat_tests, decimal_by_steps_wide, is_ascii_digit, is_whitespace, decimal, list_any, list_all, is_digits, is_integer_text, is_decimal_text, past_digits, is_special, ends_badly, and_from, or_from, both_second, both_first}

-- digits
plain_digit : (k : ℕ) → k < 10 → is_special (48 + k) ≡ false
plain_digit zero h = refl
plain_digit (suc zero) h = refl
plain_digit (suc (suc zero)) h = refl
plain_digit (suc (suc (suc zero))) h = refl
plain_digit (suc (suc (suc (suc zero)))) h = refl
plain_digit (suc (suc (suc (suc (suc zero))))) h = refl
plain_digit (suc (suc (suc (suc (suc (suc zero)))))) h = refl
plain_digit (suc (suc (suc (suc (suc (suc (suc zero))))))) h = refl
plain_digit (suc (suc (suc (suc (suc (suc (suc (suc zero)))))))) h = refl
plain_digit (suc (suc (suc (suc (suc (suc (suc (suc (suc zero))))))))) h = refl
plain_digit (suc (suc (suc (suc (suc (suc (suc (suc (suc (suc k)))))))))) h = absurd (omega arith)

record IsDigit (c : ℕ) : Type 0 where
  value : ℕ
  below : value < 10
  is : c ≡ 48 + value

digit_from : (c : ℕ) → 48 ≤ c → c ≤ 57 → IsDigit c
digit_from c low high = record { value = c - 48; below = omega arith; is = omega arith }

pub low_end : (c : ℕ) → is_ascii_digit c ≡ true → 48 ≤ c
low_end c h = grind (arith, nat_tests)

high_end : (c : ℕ) → is_ascii_digit c ≡ true → c ≤ 57
high_end c h = grind (arith, nat_tests)

digit_clear : (c : ℕ) → is_ascii_digit c ≡ true → is_special c ≡ false
digit_clear c h = let d = digit_from c (low_end c h) (high_end c h) in ap is_special d.is ∙ plain_digit d.value d.below

pub digits_clear : (cs : List ℕ) → list_all is_ascii_digit cs ≡ true → list_any is_special cs ≡ false
digits_clear [] h = refl
digits_clear (c ∷ cs) h =
    or_from (is_special c) (list_any is_special cs) (digit_clear c (both_first (is_ascii_digit c) (list_all is_ascii_digit cs) h))
    (digits_clear cs (both_second (is_ascii_digit c) (list_all is_ascii_digit cs) h))

all_push : (cs : List ℕ) (c : ℕ) → list_all is_ascii_digit cs ≡ true → is_ascii_digit c ≡ true → list_all is_ascii_digit (cs ++ c ∷ []) ≡ true
all_push [] c h k = and_from (is_ascii_digit c) true k refl
all_push (d ∷ ds) c h k =
    and_from (is_ascii_digit d) (list_all is_ascii_digit (ds ++ c ∷ [])) (both_first (is_ascii_digit d) (list_all is_ascii_digit ds) h)
    (all_push ds c (both_second (is_ascii_digit d) (list_all is_ascii_digit ds) h) k)

digits_push : (cs : List ℕ) (c : ℕ) → is_digits cs ≡ true → is_ascii_digit c ≡ true → is_digits (cs ++ c ∷ []) ≡ true
digits_push [] c h k = absurd (cc)
digits_push (d ∷ ds) c h k = all_push (d ∷ ds) c h k

glyph : (k : ℕ) → k < 10 → is_ascii_digit (48 + k) ≡ true
glyph k h = grind (arith, nat_tests)

pub decimal_digits : (n : ℕ) → n < 10 ^ 64 → is_digits (decimal n) ≡ true
decimal_digits n small =
    decimal_by_steps_wide (λ _ ds. is_digits ds ≡ true) (λ k below. and_from (is_ascii_digit (48 + k)) true (glyph k below) refl)
    (λ k ds _ before. digits_push ds (48 + k % 10) before (glyph (k % 10) (omega arith))) n small

-- a digit is no white space
dark_digit : (k : ℕ) → k < 10 → is_whitespace (48 + k) ≡ false
dark_digit zero h = refl
dark_digit (suc zero) h = refl
dark_digit (suc (suc zero)) h = refl
dark_digit (suc (suc (suc zero))) h = refl
dark_digit (suc (suc (suc (suc zero)))) h = refl
dark_digit (suc (suc (suc (suc (suc zero))))) h = refl
dark_digit (suc (suc (suc (suc (suc (suc zero)))))) h = refl
dark_digit (suc (suc (suc (suc (suc (suc (suc zero))))))) h = refl
dark_digit (suc (suc (suc (suc (suc (suc (suc (suc zero)))))))) h = refl
dark_digit (suc (suc (suc (suc (suc (suc (suc (suc (suc zero))))))))) h = refl
dark_digit (suc (suc (suc (suc (suc (suc (suc (suc (suc (suc k)))))))))) h = absurd (omega arith)

digit_dark : (c : ℕ) → is_ascii_digit c ≡ true → is_whitespace c ≡ false
digit_dark c h = let d = digit_from c (low_end c h) (high_end c h) in ap is_whitespace d.is ∙ dark_digit d.value d.below

pub digits_trimmed : (cs : List ℕ) → list_all is_ascii_digit cs ≡ true → ends_badly cs ≡ false
digits_trimmed [] h = refl
digits_trimmed (c ∷ []) h = digit_dark c (both_first (is_ascii_digit c) true h)
digits_trimmed (c ∷ d ∷ cs) h = digits_trimmed (d ∷ cs) (both_second (is_ascii_digit c) (list_all is_ascii_digit (d ∷ cs)) h)

pub minus_digit : (c : ℕ) (cs : List ℕ) → is_digits (c ∷ cs) ≡ true → (c == 45) ≡ false
minus_digit c cs h = let low = low_end c (both_first (is_ascii_digit c) (list_all is_ascii_digit cs) h) in above c low
  where
    above : (c : ℕ) → 48 ≤ c → (c == 45) ≡ false
    above c low = grind (arith, nat_tests)

pub wide : (n : ℕ) → n < 2 ^ 128 → n < 10 ^ 64
wide n h = omega arith

pub wide_negative : (n : ℕ) → n < 2 ^ 127 → suc n < 10 ^ 64
wide_negative n h = omega arith

pub digits_integer : (cs : List ℕ) → is_digits cs ≡ true → is_integer_text cs ≡ true
digits_integer [] h = absurd (cc)
digits_integer (c ∷ cs) h =
    let low = low_end c (both_first (is_ascii_digit c) (list_all is_ascii_digit cs) h) in
    rw (signless c low) h
  where
    signless : (c : ℕ) → 48 ≤ c → (c == 43 || c == 45) ≡ false
    signless c low = grind (arith, nat_tests)

-- a whole number is a number text
past_all_digits : (cs : List ℕ) → list_all is_ascii_digit cs ≡ true → past_digits cs ≡ []
past_all_digits [] h = refl
past_all_digits (c ∷ cs) h = rw (both_first (is_ascii_digit c) (list_all is_ascii_digit cs) h) (past_all_digits cs (both_second (is_ascii_digit c) (list_all is_ascii_digit cs) h))

pub digits_decimal : (cs : List ℕ) → is_digits cs ≡ true → is_decimal_text cs ≡ true
digits_decimal [] h = absurd (cc)
digits_decimal (c ∷ cs) h = rw (past_all_digits (c ∷ cs) h) (and_from (is_ascii_digit c) true (both_first (is_ascii_digit c) (list_all is_ascii_digit cs) h) refl)
