-- Words: scalars that are written without double quotes.
use Rattle.snap_print.proofs.Prelude.{◌≡◌, ℕ, suc, ◌<◌, ◌≤◌, ℤ, pos, negsuc, List, [], ◌∷◌, ◌++◌, Bool, true, false, ◌==◌, ◌||◌, ◌&&◌, cond, refl, ap, ◌∙◌, arith, nat_tests, is_ascii_digit, decimal, signed_decimal, list_any, list_all, codes, bytes_eq, is_digits, is_integer_text, is_number_text, is_float_text, is_decimal_text, past_sign, ends_infinity, past_inf, is_end, past_nan, is_octal_text, is_plus_text, is_plus_inf, needs_quotes, is_special, is_leading, is_reserved, starts_badly, ends_badly, starts_as_hexadecimal, is_word, IsWithin, IsNumber, spelling, not_true, both_first}
use Rattle.std.proofs.lemmas.Slice.Eq.{bytes_eq-Decides}
use Rattle.snap_content.specs.Front.{begins}
use Rattle.snap_content.specs.Plain as p
use Rattle.snap_print.proofs.Digits.{low_end, digits_clear, digits_trimmed, digits_decimal, digits_integer, decimal_digits, minus_digit, wide, wide_negative}
use Rattle.snap_print.proofs.Tests.{apart, no_and, by_contrary}

-- a text without special characters, which begins as no other piece does
pub record IsPlainWord (w : List ℕ) : Type 0 where
  pub first : ℕ
  pub more : List ℕ
  pub is : w ≡ first ∷ more
  pub clear : list_any is_special w ≡ false
  pub no_blank : (first == 32) ≡ false
  pub no_mark : (r : List ℕ) → (first == 45 && begins 32 (more ++ r)) ≡ false
  pub no_dash : (first == 45 && begins 45 more) ≡ false
  pub trimmed : ends_badly w ≡ false

digits_word : (cs : List ℕ) → is_digits cs ≡ true → IsPlainWord cs
digits_word [] h = absurd (cc)
digits_word (c ∷ cs) h =
    let digit = both_first (is_ascii_digit c) (list_all is_ascii_digit cs) h in
    let low = low_end c digit in
    record {
      first = c;
      more = cs;
      is = refl;
      clear = digits_clear (c ∷ cs) h;
      no_blank = above c 32 low (omega arith);
      no_mark = λ r. no_and (c == 45) (begins 32 (cs ++ r)) (above c 45 low (omega arith));
      no_dash = no_and (c == 45) (begins 45 cs) (above c 45 low (omega arith));
      trimmed = digits_trimmed (c ∷ cs) h;
    }
  where
    above : (c d : ℕ) → 48 ≤ c → d < 48 → (c == d) ≡ false
    above c d low high = grind (arith, nat_tests)

minus_trimmed : (cs : List ℕ) → is_digits cs ≡ true → IsPlainWord cs → ends_badly (45 ∷ cs) ≡ false
minus_trimmed [] h word = absurd (cc)
minus_trimmed (c ∷ cs) h word = word.trimmed

minus_apart : (cs : List ℕ) → is_digits cs ≡ true → begins 45 cs ≡ false
minus_apart [] h = refl
minus_apart (c ∷ cs) h = minus_digit c cs h

minus_word : (cs : List ℕ) → is_digits cs ≡ true → IsPlainWord cs → IsPlainWord (45 ∷ cs)
minus_word cs h word = record {
  first = 45;
  more = cs;
  is = refl;
  clear = word.clear;
  no_blank = refl;
  no_mark = λ r. ap (λ w. begins 32 (w ++ r)) word.is ∙ word.no_blank;
  no_dash = minus_apart cs h;
  trimmed = minus_trimmed cs h word;
}

-- what is known of a bare text
pub record IsBare (s : List ℕ) : Type 0 where
  pub start : starts_badly s ≡ false
  pub trimmed : ends_badly s ≡ false
  pub clear : list_any is_special s ≡ false
  pub no_integer : is_integer_text s ≡ false

bare_parts : (a b c d e f : Bool) → (a || b || c || d || e || f) ≡ false → (a ≡ false) × ((d ≡ false) × ((f ≡ false) × (b ≡ false)))
bare_parts true b c d e f h = absurd (cc)
bare_parts false true c d e f h = absurd (cc)
bare_parts false false true d e f h = absurd (cc)
bare_parts false false false true e f h = absurd (cc)
bare_parts false false false false true f h = absurd (cc)
bare_parts false false false false false true h = absurd (cc)
bare_parts false false false false false false h = (refl, (refl, (refl, refl)))

first_of_three : (a b c : Bool) → a ≡ true → (a || b || c) ≡ true
first_of_three true b c h = refl
first_of_three false b c h = absurd (cc)

first_of_four : (a b c d : Bool) → (a || b || c || d) ≡ false → a ≡ false
first_of_four true b c d h = absurd (cc)
first_of_four false b c d h = refl

signed : (test : Bool) (c : ℕ) (cs : List ℕ) → cond test (is_digits cs) (is_digits (c ∷ cs)) ≡ true → is_decimal_text (cond test cs (c ∷ cs)) ≡ true
signed true c cs h = digits_decimal cs h
signed false c cs h = digits_decimal (c ∷ cs) h

integer_float : (s : List ℕ) → is_integer_text s ≡ true → is_float_text s ≡ true
integer_float [] h = absurd (cc)
integer_float (c ∷ cs) h =
    first_of_three (is_decimal_text (past_sign (c ∷ cs))) (ends_infinity (past_inf (past_sign (c ∷ cs)))) (is_end (past_nan (past_sign (c ∷ cs)))) (signed (c == 43 || c == 45) c cs h)

pub no_number_no_integer : (s : List ℕ) → is_number_text s ≡ false → is_integer_text s ≡ false
no_number_no_integer s h =
    by_contrary (is_integer_text s) (is_float_text s) (integer_float s) (first_of_four (is_float_text s) (is_octal_text s) (is_plus_text s) (is_plus_inf s) h)

pub bare : (s : List ℕ) → needs_quotes s ≡ false → IsBare s
bare s h =
    let parts = bare_parts (starts_badly s) (ends_badly s) (starts_as_hexadecimal s) (list_any is_special s) (is_reserved s) (is_number_text s) h in
    record { start = parts.0; clear = parts.1.0; no_integer = no_number_no_integer s parts.1.1.0; trimmed = parts.1.1.1 }

bare_word : (s : List ℕ) → IsBare s → IsPlainWord s
bare_word [] h = let never : true ≡ false = h.start in absurd (cc)
bare_word (c ∷ cs) h = record {
  first = c;
  more = cs;
  is = refl;
  clear = h.clear;
  no_blank = apart is_leading c 32 h.start refl;
  no_mark = λ r. no_and (c == 45) (begins 32 (cs ++ r)) (apart is_leading c 45 h.start refl);
  no_dash = no_and (c == 45) (begins 45 cs) (apart is_leading c 45 h.start refl);
  trimmed = h.trimmed;
}

pub word : (t : p.Plain) → is_word t ≡ true → IsWithin t → IsPlainWord (spelling t)
word p.null h k = record { first = 126; more = []; is = refl; clear = refl; no_blank = refl; no_mark = λ r. refl; no_dash = refl; trimmed = refl }
word (p.bool true) h k = record { first = 116; more = codes "rue"; is = refl; clear = refl; no_blank = refl; no_mark = λ r. refl; no_dash = refl; trimmed = refl }
word (p.bool false) h k = record { first = 102; more = codes "alse"; is = refl; clear = refl; no_blank = refl; no_mark = λ r. refl; no_dash = refl; trimmed = refl }
word (p.int (pos n)) h k = digits_word (decimal n) (decimal_digits n (wide n k))
word (p.int (negsuc n)) h k =
    let digits = decimal_digits (suc n) (wide_negative n k) in minus_word (decimal (suc n)) digits (digits_word (decimal (suc n)) digits)
word (p.text s) h k = let b = not_true (needs_quotes s) h in rw b (bare_word s (bare s b))
word (p.list _) h k = absurd (cc)
word (p.dict _) h k = absurd (cc)

pub integer : (z : ℤ) → IsNumber z → is_integer_text (signed_decimal z) ≡ true
integer (pos n) k = digits_integer (decimal n) (decimal_digits n (wide n k))
integer (negsuc n) k = decimal_digits (suc n) (wide_negative n k)

pub same_word : (w v : List ℕ) → bytes_eq w v ≡ true → w ≡ v
same_word w v h = (bytes_eq-Decides w v).0 h
