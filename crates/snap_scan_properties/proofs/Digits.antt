-- Decimal digits, as a text and as a number.
use Rattle.snap_scan_properties.proofs.Prelude.{◌≡◌, ℕ, ◌<◌, ◌≤◌, ◌^◌, List, [], ◌∷◌, Bool, true, false, Result, Ok, Err, length, nat_lt, refl, sym, ap, ◌∙◌, arith, subst, take_while, digit_value, chars, IsUtf8, nat_tests, encode_ascii, encodes-chars, is_digit, is_nothing, Place, S10, found, encodes}
use Rattle.std.specs.Str.Parse.{AllDigits, ParsesUnsigned, digits_value}
use Rattle.std.proofs.lemmas.Str.Parse.{IsNumeralModel, digit_from_value, numerals_by_value, tells_digits, parse_gives, digits_value_short}
use Rattle.snap_scan_properties.specs.Directive.{number_of}
use Rattle.snap_scan_properties.proofs.Taken.{run-true, run-false}

digit-small : (c : ℕ) → is_digit c ≡ true → digit_value c < 10
digit-small c is = grind (arith, nat_tests)

-- a run of digits is one
all-digits : (cs : List ℕ) → AllDigits 10 (take_while is_digit cs)
all-digits [] = tt
all-digits (c ∷ cs) =
    let P : List ℕ → Type 0 = λ l. AllDigits 10 l in
    let step : (b : Bool) → is_digit c ≡ b → AllDigits 10 (take_while is_digit (c ∷ cs)) = λ b. elim b as (λ v. is_digit c ≡ v → AllDigits 10 (take_while is_digit (c ∷ cs))) [
      | true ↦ λ e. let small : digit_value c < 10 = digit-small c e in subst P (sym (run-true is_digit c cs e)) (small, all-digits cs)
      | false ↦ λ e. subst P (sym (run-false is_digit c cs e)) tt
    ] in
    step (is_digit c) refl

own : IsNumeralModel (AllDigits 10) (digits_value 10)
own = numerals_by_value (AllDigits 10) tells_digits

encoded-digits : (ds : List ℕ) → AllDigits 10 ds → encodes ds ≡ ds
encoded-digits [] all = refl
encoded-digits (c ∷ cs) all =
    let range = digit_from_value c all.0 in
    let small : c < 128 = omega arith in
    rw (encode_ascii c small, encoded-digits cs all.1) refl

-- digits have a byte each
same-bytes : (bytes cs : List ℕ) → IsUtf8 bytes → chars bytes ≡ take_while is_digit cs → chars bytes ≡ bytes
same-bytes bytes cs u is =
    let P : List ℕ → Type 0 = λ l. AllDigits 10 l in
    sym (encoded-digits (chars bytes) (subst P (sym is) (all-digits cs))) ∙ encodes-chars bytes u

some-length : (cs : List ℕ) → is_nothing cs ≡ false → 0 < length cs
some-length [] is = absurd (cc)
some-length (c ∷ cs) is = omega arith

-- what is read of at most nine digits
parsed : {E : Type 0} (bytes cs : List ℕ) (r : Result ℕ E) → IsUtf8 bytes → chars bytes ≡ take_while is_digit cs → is_nothing (chars bytes) ≡ false → length bytes ≤ 9
    → ParsesUnsigned 32 10 bytes r → r ≡ Ok (digits_value 10 (chars bytes))
parsed {E} bytes cs r u is some few h =
    let same : chars bytes ≡ bytes = same-bytes bytes cs u is in
    let P : List ℕ → Type 0 = λ l. AllDigits 10 l in
    let all : AllDigits 10 bytes = subst P same (subst P (sym is) (all-digits cs)) in
    let longer : 0 < length bytes = omega (arith, some-length (chars bytes) some, ap length same) in
    let small : digits_value 10 bytes < 2 ^ 32 = omega (arith, digits_value_short own bytes 9 all few) in
    let f : List ℕ → Result ℕ E = λ l. Ok (digits_value 10 l) in
    parse_gives own 32 bytes r h all longer small ∙ ap f (sym same)

-- what `parse` says of them, where it reads a number and where it reads none
pub parsed-ok : (bytes cs : List ℕ) (n : ℕ) → IsUtf8 bytes → chars bytes ≡ take_while is_digit cs → is_nothing (chars bytes) ≡ false → length bytes ≤ 9
    → ParsesUnsigned {E = Unit {0}} 32 10 bytes (Ok n) → digits_value 10 (chars bytes) ≡ n
parsed-ok bytes cs n u is some few h =
    let e = parsed {E = Unit {0}} bytes cs (Ok n) u is some few h in
    cc

pub parsed-err : (bytes cs : List ℕ) → IsUtf8 bytes → chars bytes ≡ take_while is_digit cs → is_nothing (chars bytes) ≡ false → length bytes ≤ 9
    → ParsesUnsigned {E = Unit {0}} 32 10 bytes (Err tt) → ⊥
parsed-err bytes cs u is some few h =
    let e = parsed {E = Unit {0}} bytes cs (Err tt) u is some few h in
    absurd (cc)

pub number-read : (bytes cs : List ℕ) (p : Place) → IsUtf8 bytes → chars bytes ≡ take_while is_digit cs → is_nothing (chars bytes) ≡ false → length bytes ≤ 9
    → number_of (record { value = chars bytes; place = p }) ≡ found (digits_value 10 (chars bytes)) p
number-read bytes cs p u is some few =
    let e : nat_lt 9 (length (chars bytes)) ≡ false = grind (arith, nat_tests, ap length (same-bytes bytes cs u is)) in
    rw (some, e) refl

pub number-long : (bytes cs : List ℕ) (p : Place) → IsUtf8 bytes → chars bytes ≡ take_while is_digit cs → is_nothing (chars bytes) ≡ false → 9 < length bytes
    → number_of (record { value = chars bytes; place = p }) ≡ Err S10
number-long bytes cs p u is some many =
    let e : nat_lt 9 (length (chars bytes)) ≡ true = grind (arith, nat_tests, ap length (same-bytes bytes cs u is)) in
    rw (some, e) refl
