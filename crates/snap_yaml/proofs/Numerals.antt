-- What `from_str_radix` reads at 64 bits with a sign, in the words of typing.
use Rattle.snap_yaml.proofs.Prelude.{◌≡◌, ℕ, zero, suc, ℤ, pos, negsuc, ◌≤◌, ◌^◌, List, [], ◌∷◌, Bool, true, false, ◌&&◌, ◌||◌, Option, Some, None, nat_lt, refl, sym, ap, ◌∙◌, arith, subst, cond, drop, IsTrue, if◌then◌else◌, neg_ℤ, ◌==◌, digit_value, is_ascii, list_all, chars, IsUtf8, AllDigits, IsNumeral, digits_value, without_leading_sign, signed_digits_value, nat_tests, bytes_are, is_digits_in, is_integer_in, integer_of, and_from, and_parts}
use borrow.Author.Tests.{ltb-true, lt-ltb}
use mir.Syntax.{w64}
use mir.Val.{SFits, to_z, of_z}
use Rattle.std.proofs.lemmas.Int.{to_z-of_z}
use Rattle.snap_print.specs.Typed.{number_in, below_zero, has_64_bits}
use Rattle.snap_content.proofs.Ascii.{IsAscii-list_all, chars-ascii}

-- digits, as a test and as a fact
digits-from_test : (base : ℕ) (cs : List ℕ) → list_all (λ c. nat_lt (digit_value c) base) cs ≡ true → AllDigits base cs
digits-from_test base [] h = tt
digits-from_test base (c ∷ cs) h =
    let p = and_parts (nat_lt (digit_value c) base) _ h in (ltb-true (digit_value c) base p.0, digits-from_test base cs p.1)

test-from_digits : (base : ℕ) (cs : List ℕ) → AllDigits base cs → list_all (λ c. nat_lt (digit_value c) base) cs ≡ true
test-from_digits base [] h = refl
test-from_digits base (c ∷ cs) h = and_from (nat_lt (digit_value c) base) _ (lt-ltb (digit_value c) base h.0) (test-from_digits base cs h.1)

numeral-from_test : (base : ℕ) (cs : List ℕ) → is_digits_in base cs ≡ true → IsNumeral base cs
numeral-from_test base [] h = absurd (cc)
numeral-from_test base (c ∷ cs) h = (omega arith, digits-from_test base (c ∷ cs) h)

test-from_numeral : (base : ℕ) (cs : List ℕ) → IsNumeral base cs → is_digits_in base cs ≡ true
test-from_numeral base [] h = absurd (omega (arith, h.0))
test-from_numeral base (c ∷ cs) h = test-from_digits base (c ∷ cs) h.1

-- a number of 64 bits
fits-from_test : (z : ℤ) → has_64_bits z ≡ true → SFits w64 z
fits-from_test (pos n) h = record { sfits = ltb-true n (2 ^ 63) h }
fits-from_test (negsuc n) h = record { sfits = ltb-true n (2 ^ 63) h }

test-from_fits : (z : ℤ) → SFits w64 z → has_64_bits z ≡ true
test-from_fits (pos n) h = lt-ltb n (2 ^ 63) h.sfits
test-from_fits (negsuc n) h = lt-ltb n (2 ^ 63) h.sfits

below_zero-neg : (n : ℕ) → below_zero n ≡ neg_ℤ (pos n)
below_zero-neg zero = refl
below_zero-neg (suc n) = refl

-- a sign and digits, where m and p say that the sign is a minus or a plus
abbrev unsigned : Bool → Bool → ℕ → List ℕ → List ℕ
unsigned m p c cs = cond m (drop 1 (c ∷ cs)) (drop (cond p 1 0) (c ∷ cs))

abbrev signed : Bool → Bool → ℕ → ℕ → List ℕ → ℤ
signed m p base c cs = cond m (neg_ℤ (pos (digits_value base (unsigned m p c cs)))) (pos (digits_value base (unsigned m p c cs)))

abbrev number : Bool → Bool → ℕ → ℕ → List ℕ → ℤ
number m p base c cs =
    if m then below_zero (digits_value base cs) else (
    if p then pos (digits_value base cs) else pos (digits_value base (c ∷ cs)))

abbrev test : Bool → Bool → ℕ → ℕ → List ℕ → Bool
test m p base c cs = (if p || m then is_digits_in base cs else is_digits_in base (c ∷ cs)) && has_64_bits (number m p base c cs)

same_number : (m p : Bool) (base c : ℕ) (cs : List ℕ) → number m p base c cs ≡ signed m p base c cs
same_number true p base c cs = below_zero-neg (digits_value base cs)
same_number false true base c cs = refl
same_number false false base c cs = refl

digits_then : (m p : Bool) (base c : ℕ) (cs : List ℕ) → (if p || m then is_digits_in base cs else is_digits_in base (c ∷ cs)) ≡ is_digits_in base (unsigned m p c cs)
digits_then true true base c cs = refl
digits_then true false base c cs = refl
digits_then false true base c cs = refl
digits_then false false base c cs = refl

read-from_test : (m p : Bool) (base c : ℕ) (cs : List ℕ) → test m p base c cs ≡ true → IsNumeral base (unsigned m p c cs) × SFits w64 (signed m p base c cs)
read-from_test m p base c cs h =
    let q = and_parts (if p || m then is_digits_in base cs else is_digits_in base (c ∷ cs)) (has_64_bits (number m p base c cs)) h in
    let P : ℤ → Type 0 = λ z. SFits w64 z in
    (numeral-from_test base (unsigned m p c cs) (sym (digits_then m p base c cs) ∙ q.0), subst P (same_number m p base c cs) (fits-from_test (number m p base c cs) q.1))

test-from_read : (m p : Bool) (base c : ℕ) (cs : List ℕ) → IsNumeral base (unsigned m p c cs) × SFits w64 (signed m p base c cs) → test m p base c cs ≡ true
test-from_read m p base c cs h =
    and_from (if p || m then is_digits_in base cs else is_digits_in base (c ∷ cs)) (has_64_bits (number m p base c cs))
    (digits_then m p base c cs ∙ test-from_numeral base (unsigned m p c cs) h.0)
    (ap has_64_bits (same_number m p base c cs) ∙ test-from_fits (signed m p base c cs) h.1)

abbrev pub IsRead : ℕ → List ℕ → Type 0
IsRead base bs = IsNumeral base (without_leading_sign bs) × SFits w64 (signed_digits_value base bs)

is_read : (base : ℕ) (bs : List ℕ) → is_integer_in base bs ≡ true → IsRead base bs
is_read base [] h = absurd (cc)
is_read base (c ∷ cs) h = read-from_test (c == 45) (c == 43) base c cs h

is_integer : (base : ℕ) (bs : List ℕ) → IsRead base bs → (is_integer_in base bs ≡ true) × (number_in base bs ≡ signed_digits_value base bs)
is_integer base [] h = absurd (omega (arith, h.0.0))
is_integer base (c ∷ cs) h = (test-from_read (c == 45) (c == 43) base c cs h, same_number (c == 45) (c == 43) base c cs)

-- signs and digits are ASCII
digit_ascii : (base c : ℕ) → base ≤ 36 → nat_lt (digit_value c) base ≡ true → nat_lt c 128 ≡ true
digit_ascii base c most h = grind (arith, nat_tests)

digits_ascii : (base : ℕ) (cs : List ℕ) → base ≤ 36 → list_all (λ c. nat_lt (digit_value c) base) cs ≡ true → IsTrue (list_all is_ascii cs)
digits_ascii base [] most h = refl
digits_ascii base (c ∷ cs) most h =
    let p = and_parts (nat_lt (digit_value c) base) _ h in
    and_from (nat_lt c 128) (list_all is_ascii cs) (digit_ascii base c most p.0) (digits_ascii base cs most p.1)

digit_text_ascii : (base : ℕ) (cs : List ℕ) → base ≤ 36 → is_digits_in base cs ≡ true → IsTrue (list_all is_ascii cs)
digit_text_ascii base [] most h = absurd (cc)
digit_text_ascii base (c ∷ cs) most h = digits_ascii base (c ∷ cs) most h

sign_ascii : (c : ℕ) → (c == 43 || c == 45) ≡ true → nat_lt c 128 ≡ true
sign_ascii c h = grind (arith, nat_tests)

signed_ascii : (s : Bool) (base c : ℕ) (cs : List ℕ) → base ≤ 36 → (c == 43 || c == 45) ≡ s → (if s then is_digits_in base cs else is_digits_in base (c ∷ cs)) ≡ true → IsTrue (list_all is_ascii (c ∷ cs))
signed_ascii true base c cs most is h = and_from (nat_lt c 128) (list_all is_ascii cs) (sign_ascii c is) (digit_text_ascii base cs most h)
signed_ascii false base c cs most is h = digit_text_ascii base (c ∷ cs) most h

integer_ascii : (base : ℕ) (cs : List ℕ) → base ≤ 36 → is_integer_in base cs ≡ true → IsTrue (list_all is_ascii cs)
integer_ascii base [] most h = refl
integer_ascii base (c ∷ cs) most h =
    signed_ascii (c == 43 || c == 45) base c cs most refl (and_parts (if c == 43 || c == 45 then is_digits_in base cs else is_digits_in base (c ∷ cs)) _ h).0

chosen : (b : Bool) (z : ℤ) → b ≡ true → Some z ≡ (if b then Some z else None)
chosen true z h = refl
chosen false z h = absurd (cc)

pub read-ok : (base : ℕ) (bs : List ℕ) (z : ℤ) → base ≤ 36 → IsRead base bs × (z ≡ signed_digits_value base bs) → Some (to_z w64 (of_z w64 z)) ≡ integer_of base (chars bs)
read-ok base bs z most h =
    let i = is_integer base bs h.0 in
    let P : ℤ → Type 0 = λ x. SFits w64 x in
    let fits : SFits w64 z = subst P (sym h.1) h.0.1 in
    let same : chars bs ≡ bs = chars-ascii bs (integer_ascii base bs most i.0) in
    let f : List ℕ → Option ℤ = λ cs. integer_of base cs in
    ap Some (to_z-of_z w64 z fits ∙ h.1 ∙ sym i.1) ∙ chosen (is_integer_in base bs) (number_in base bs) i.0 ∙ ap f (sym same)

refused : (base : ℕ) (bs : List ℕ) (b : Bool) → base ≤ 36 → IsUtf8 bs → (IsRead base bs → ⊥) → is_integer_in base (chars bs) ≡ b → None ≡ (if b then Some (number_in base (chars bs)) else None)
refused base bs false most u h is = refl
refused base bs true most u h is =
    let ascii = IsAscii-list_all (chars bs) (integer_ascii base (chars bs) most is) in
    let P : List ℕ → Type 0 = λ cs. is_integer_in base cs ≡ true in
    absurd (h (is_read base bs (subst P (sym (bytes_are bs (chars bs) u ascii refl)) is)))

pub read-err : (base : ℕ) (bs : List ℕ) → base ≤ 36 → IsUtf8 bs → (IsRead base bs → ⊥) → None ≡ integer_of base (chars bs)
read-err base bs most u h = refused base bs (is_integer_in base (chars bs)) most u h refl
