-- What `parse` gives of digits.
use Rattle.snap_emit.proofs.Prelude.{◌≡◌, ℕ, ◌<◌, ◌^◌, List, [], ◌∷◌, Bool, true, false, Option, Some, None, Result, Ok, Err, length, nat_lt, if◌then◌else◌, refl, sym, ap, ◌∙◌, arith, rules, subst, list_all, IsTrue, ◌&&◌, is_some, option_map, chars, IsUtf8, tree, Content}
use Rattle.std.proofs.lemmas.Bool.Decides.{nat_tests}
use borrow.Author.Tests.{ltb-true, lt-ltb}
use Rattle.std.proofs.lemmas.Str.Parse.{IsDigitsTest, IsNumeralModel, numerals_by_value, parse_digits}
use Rattle.std.specs.Char.{is_ascii_digit}
use Rattle.std.specs.Char.{is_ascii}
use Rattle.std.specs.Str.Parse.{digits_value, ParsesUnsigned}
use Rattle.snap_content.specs.Numbers.{is_digits}
use Rattle.snap_content.specs.Tree.{Tree}
use Rattle.snap_content.proofs.Ascii.{IsAscii-list_all}
use Rattle.snap_content.proofs.Ends.{bytes_are}

AreDigits : List ℕ → Type 0
AreDigits ds = list_all is_ascii_digit ds ≡ true

digits : IsDigitsTest (λ ds. list_all is_ascii_digit ds ≡ true)
digits = search rules

model : IsNumeralModel (λ ds. list_all is_ascii_digit ds ≡ true) (digits_value 10)
model = numerals_by_value _ digits

digit-ascii : (c : ℕ) → is_ascii_digit c ≡ true → is_ascii c ≡ true
digit-ascii c h = grind (arith, nat_tests)

joined : (a b x y : Bool) → (a ≡ true → x ≡ true) → (b ≡ true → y ≡ true) → (a && b) ≡ true → (x && y) ≡ true
joined true true x y f g h = rw (f refl, g refl) refl
joined true false x y f g h = absurd (cc)
joined false b x y f g h = absurd (cc)

all-ascii : (cs : List ℕ) → list_all is_ascii_digit cs ≡ true → IsTrue (list_all is_ascii cs)
all-ascii [] h = refl
all-ascii (c ∷ cs) h = joined (is_ascii_digit c) (list_all is_ascii_digit cs) (is_ascii c) (list_all is_ascii cs) (digit-ascii c) (all-ascii cs) h

-- digits, at least one
record AreSome (cs : List ℕ) : Type 0 where
  all : list_all is_ascii_digit cs ≡ true
  some : 0 < length cs

some-digits : (cs : List ℕ) → is_digits cs ≡ true → AreSome cs
some-digits [] h = absurd (cc)
some-digits (c ∷ cs) h = record { all = h; some = omega arith }

taken : (b : Bool) (n : ℕ) → b ≡ true → Some n ≡ (if b then Some n else None)
taken true n h = refl
taken false n h = absurd (cc)

dropped : (b : Bool) (n : ℕ) → (b ≡ true → ⊥) → None ≡ (if b then Some n else None)
dropped true n h = absurd (h refl)
dropped false n h = refl

-- the bytes of a text of digits are its characters
same-bytes : (bs : List ℕ) → IsUtf8 bs → AreSome (chars bs) → bs ≡ chars bs
same-bytes bs u h = bytes_are bs (chars bs) u (IsAscii-list_all (chars bs) (all-ascii (chars bs) h.all)) refl

abbrev number_of : List ℕ → Option ℕ
number_of cs = if nat_lt (digits_value 10 cs) (2 ^ 128) then Some (digits_value 10 cs) else None

digits-ok : {E : Type 0} (bs : List ℕ) (r : Result ℕ E) (n : ℕ) → ParsesUnsigned 128 10 bs r → AreSome bs → r ≡ Ok n → Some n ≡ number_of bs
digits-ok {E} bs r n h a is =
    let P : Result ℕ E → Type 0 = λ x. ParsesUnsigned 128 10 bs x in
    let given = parse_digits model {E = E} 128 bs (Ok n) (subst P is h) a.all in
    ap Some given.1 ∙ taken (nat_lt (digits_value 10 bs) (2 ^ 128)) (digits_value 10 bs) (lt-ltb (digits_value 10 bs) (2 ^ 128) given.0.1)

digits-err : {E : Type 0} (bs : List ℕ) (r : Result ℕ E) (e : E) → ParsesUnsigned 128 10 bs r → AreSome bs → r ≡ Err e → None ≡ number_of bs
digits-err {E} bs r e h a is =
    let P : Result ℕ E → Type 0 = λ x. ParsesUnsigned 128 10 bs x in
    let given = parse_digits model {E = E} 128 bs (Err e) (subst P is h) a.all in
    dropped (nat_lt (digits_value 10 bs) (2 ^ 128)) (digits_value 10 bs) (λ fits. given (a.some, ltb-true (digits_value 10 bs) (2 ^ 128) fits))

pub magnitude-ok : {E : Type 0} (bs : List ℕ) (r : Result ℕ E) (n : ℕ) → IsUtf8 bs → ParsesUnsigned 128 10 bs r → r ≡ Ok n → is_digits (chars bs) ≡ true → Some n ≡ number_of (chars bs)
magnitude-ok bs r n u h is d =
    let same = same-bytes bs u (some-digits (chars bs) d) in
    let P : List ℕ → Type 0 = λ x. AreSome x in
    digits-ok bs r n h (subst P (sym same) (some-digits (chars bs) d)) is ∙ ap number_of same

pub magnitude-err : {E : Type 0} (bs : List ℕ) (r : Result ℕ E) (e : E) → IsUtf8 bs → ParsesUnsigned 128 10 bs r → r ≡ Err e → is_digits (chars bs) ≡ true → None ≡ number_of (chars bs)
magnitude-err bs r e u h is d =
    let same = same-bytes bs u (some-digits (chars bs) d) in
    let P : List ℕ → Type 0 = λ x. AreSome x in
    digits-err bs r e h (subst P (sym same) (some-digits (chars bs) d)) is ∙ ap number_of same

-- a tree is there exactly where a test holds
pub whole-known : (found : Option Content) (test : Bool) (t : Tree) → option_map tree found ≡ (if test then Some t else None) → is_some found ≡ test
whole-known None true t is = absurd (cc)
whole-known None false t is = refl
whole-known (Some made) true t is = refl
whole-known (Some made) false t is = absurd (cc)
