-- A number that is no whole one stands as one plain scalar too.
use Rattle.snap_parse_laws.proofs.Prelude.{◌≡◌, ℕ, ◌+◌, List, [], ◌∷◌, Bool, true, false, refl, sym, arith, subst, Some, None, Option, nat_tests, ◌||◌, ◌&&◌, ◌==◌, nat_le, if◌then◌else◌, slice_index, list_all, is_word_character, is_word_start, is_sign, is_behind, is_start, is_tail, is_bare, and_parts}
use Rattle.std.specs.Char.{is_ascii_digit}
use Rattle.std.specs.Prelude.{drop, codes}
use Rattle.std.specs.Str.{bytes_eq}
use Rattle.snap_content.specs.Front.{begins}
use Rattle.snap_content.specs.Numbers.{is_nothing, is_digits, is_integer_text, past_digits, has_digit, is_exponent, is_decimal_text, past_letter, then_letter, past_inf, past_nan, past_inity, is_end, ends_infinity, is_unsigned_float, is_float_text, is_octal_text, is_plus_text}
use Rattle.snap_content.specs.Plain.{Plain, null, bool, int, text}
use Rattle.snap_print.specs.Typed.{Typed, value, real, typed, is_inf_word, is_named_number, is_hexadecimal_text, is_null_word, has_128_bits, number_in}
use Rattle.snap_parse_laws.proofs.Escapes.{apart}
use Rattle.snap_print.proofs.Words.{same_word}

-- the characters of numbers: digits, letters, signs and points
abbrev is_letter : ℕ → Bool
is_letter c = (nat_le 97 c && nat_le c 122) || (nat_le 65 c && nat_le c 90)

abbrev is_alphanumeric : ℕ → Bool
is_alphanumeric c = is_ascii_digit c || is_letter c

abbrev is_of_number : ℕ → Bool
is_of_number c = is_alphanumeric c || (c == 43 || c == 45 || c == 46)

abbrev AllOf : List ℕ → Type 0
AllOf cs = list_all is_of_number cs ≡ true

all-more : (c : ℕ) (cs : List ℕ) → is_of_number c ≡ true → AllOf cs → AllOf (c ∷ cs)
all-more c cs e f = rw (e, f) refl

word-of : (c : ℕ) → is_of_number c ≡ true → is_word_character c ≡ true
word-of c h =
    rw (apart is_of_number 32 c refl h, apart is_of_number 9 c refl h, apart is_of_number 10 c refl h, apart is_of_number 13 c refl h, apart is_of_number 0 c refl h, apart is_of_number 58 c refl h, apart is_of_number 35 c refl h) refl

not-blank : (q w x y : Bool) → q ≡ false → w ≡ true → y ≡ true → (if q then x else w && y) ≡ true
not-blank q w x y e f h = rw (e, f, h) refl

tail-of : (cs : List ℕ) → AllOf cs → is_tail false cs ≡ true
tail-of [] h = refl
tail-of (c ∷ cs) h =
    let two = and_parts (is_of_number c) (list_all is_of_number cs) h in
    not-blank (c == 32) (is_word_character c) (is_tail true cs) (is_tail false cs) (apart is_of_number 32 c refl two.0) (word-of c two.0) (tail-of cs two.1)

-- digits and exponents

digit-of : (c : ℕ) → is_ascii_digit c ≡ true → is_of_number c ≡ true
digit-of c h = rw h refl

digits-all : (cs : List ℕ) → list_all is_ascii_digit cs ≡ true → AllOf cs
digits-all [] h = refl
digits-all (c ∷ cs) h =
    let two = and_parts (is_ascii_digit c) (list_all is_ascii_digit cs) h in
    all-more c cs (digit-of c two.0) (digits-all cs two.1)

some-digits : (cs : List ℕ) → is_digits cs ≡ true → AllOf cs
some-digits [] h = refl
some-digits (c ∷ cs) h = digits-all (c ∷ cs) h

past-by : (b : Bool) (c : ℕ) (cs : List ℕ) → is_ascii_digit c ≡ b → (AllOf (past_digits cs) → AllOf cs) → AllOf (if b then past_digits cs else c ∷ cs) → AllOf (c ∷ cs)
past-by true c cs e f h = all-more c cs (digit-of c e) (f h)
past-by false c cs e f h = h

past-all : (cs : List ℕ) → AllOf (past_digits cs) → AllOf cs
past-all [] h = refl
past-all (c ∷ cs) h = past-by (is_ascii_digit c) c cs refl (past-all cs) h

is-one : (c a : ℕ) → is_of_number a ≡ true → (c == a) ≡ true → is_of_number c ≡ true
is-one c a h e = let same : c ≡ a = grind (arith, nat_tests) in let P : ℕ → Type 0 = λ x. is_of_number x ≡ true in subst P (sym same) h

is-either : (b : Bool) (c a d : ℕ) → is_of_number a ≡ true → is_of_number d ≡ true → (c == a) ≡ b → b || c == d ≡ true → is_of_number c ≡ true
is-either true c a d h k e g = is-one c a h e
is-either false c a d h k e g = is-one c d k g

integer-by : (b : Bool) (c : ℕ) (cs : List ℕ) → (c == 43 || c == 45) ≡ b → (if b then is_digits cs else is_digits (c ∷ cs)) ≡ true → AllOf (c ∷ cs)
integer-by true c cs e h = all-more c cs (is-either (c == 43) c 43 45 refl refl refl e) (some-digits cs h)
integer-by false c cs e h = some-digits (c ∷ cs) h

integer-all : (cs : List ℕ) → is_integer_text cs ≡ true → AllOf cs
integer-all [] h = refl
integer-all (c ∷ cs) h = integer-by (c == 43 || c == 45) c cs refl h

exponent-all : (cs : List ℕ) → is_exponent cs ≡ true → AllOf cs
exponent-all [] h = refl
exponent-all (c ∷ cs) h =
    let two = and_parts (c == 101 || c == 69) (is_integer_text cs) h in
    all-more c cs (is-either (c == 101) c 101 69 refl refl refl two.0) (integer-all cs two.1)

behind-point : (cs : List ℕ) → begins 46 cs ≡ true → AllOf (drop 1 cs) → AllOf cs
behind-point [] b h = refl
behind-point (c ∷ cs) b h = all-more c cs (is-one c 46 refl b) h

decimal-by : (b : Bool) (cs : List ℕ) → begins 46 (past_digits cs) ≡ b
    → (if b then (has_digit cs || has_digit (drop 1 (past_digits cs))) && is_exponent (past_digits (drop 1 (past_digits cs))) else has_digit cs && is_exponent (past_digits cs)) ≡ true → AllOf cs
decimal-by true cs e h =
    let two = and_parts (has_digit cs || has_digit (drop 1 (past_digits cs))) (is_exponent (past_digits (drop 1 (past_digits cs)))) h in
    past-all cs (behind-point (past_digits cs) e (past-all (drop 1 (past_digits cs)) (exponent-all (past_digits (drop 1 (past_digits cs))) two.1)))
decimal-by false cs e h =
    let two = and_parts (has_digit cs) (is_exponent (past_digits cs)) h in
    past-all cs (exponent-all (past_digits cs) two.1)

decimal-all : (cs : List ℕ) → is_decimal_text cs ≡ true → AllOf cs
decimal-all cs h = decimal-by (begins 46 (past_digits cs)) cs refl h

-- letters

-- what is left after some letters
abbrev Leads : Option (List ℕ) → List ℕ → Type 0
Leads o cs = (ds : List ℕ) → o ≡ Some ds → AllOf ds → AllOf cs

is-large : (c l u : ℕ) → l ≡ u + 32 → is_of_number u ≡ true → (c + 32 == l) ≡ true → is_of_number c ≡ true
is-large c l u e h g = let same : c ≡ u = grind (arith, nat_tests, e) in let P : ℕ → Type 0 = λ x. is_of_number x ≡ true in subst P (sym same) h

either-case : (b : Bool) (c l u : ℕ) → l ≡ u + 32 → is_of_number l ≡ true → is_of_number u ≡ true → (c == l) ≡ b → b || c + 32 == l ≡ true → is_of_number c ≡ true
either-case true c l u e h k g d = is-one c l h g
either-case false c l u e h k g d = is-large c l u e k d

letter-by : (b : Bool) (c l u : ℕ) (cs : List ℕ) → l ≡ u + 32 → is_of_number l ≡ true → is_of_number u ≡ true → (c == l || c + 32 == l) ≡ b → Leads (if b then Some cs else None) (c ∷ cs)
letter-by true c l u cs e h k g =
    λ ds is all. let same : cs ≡ ds = cc in let P : List ℕ → Type 0 = λ x. AllOf x in
    all-more c cs (either-case (c == l) c l u e h k refl g) (subst P (sym same) all)
letter-by false c l u cs e h k g = λ ds is all. absurd (cc)

letter-leads : (l u : ℕ) → l ≡ u + 32 → is_of_number l ≡ true → is_of_number u ≡ true → (cs : List ℕ) → Leads (past_letter l cs) cs
letter-leads l u e h k [] = λ ds is all. refl
letter-leads l u e h k (c ∷ cs) = letter-by (c == l || c + 32 == l) c l u cs e h k refl

more-leads : (l u : ℕ) → l ≡ u + 32 → is_of_number l ≡ true → is_of_number u ≡ true → (o : Option (List ℕ)) (cs : List ℕ) → Leads o cs → Leads (then_letter l o) cs
more-leads l u e h k None cs leads = λ ds is all. absurd (cc)
more-leads l u e h k (Some xs) cs leads = λ ds is all. leads xs refl (letter-leads l u e h k xs ds is all)

inf-leads : (cs : List ℕ) → Leads (past_inf cs) cs
inf-leads cs =
    let one = letter-leads 105 73 refl refl refl cs in
    let two = more-leads 110 78 refl refl refl (past_letter 105 cs) cs one in
    more-leads 102 70 refl refl refl (then_letter 110 (past_letter 105 cs)) cs two

nan-leads : (cs : List ℕ) → Leads (past_nan cs) cs
nan-leads cs =
    let one = letter-leads 110 78 refl refl refl cs in
    let two = more-leads 97 65 refl refl refl (past_letter 110 cs) cs one in
    more-leads 110 78 refl refl refl (then_letter 97 (past_letter 110 cs)) cs two

inity-leads : (cs : List ℕ) → Leads (past_inity cs) cs
inity-leads cs =
    let one = letter-leads 105 73 refl refl refl cs in
    let two = more-leads 110 78 refl refl refl (past_letter 105 cs) cs one in
    let three = more-leads 105 73 refl refl refl (then_letter 110 (past_letter 105 cs)) cs two in
    let four = more-leads 116 84 refl refl refl (then_letter 105 (then_letter 110 (past_letter 105 cs))) cs three in
    more-leads 121 89 refl refl refl (then_letter 116 (then_letter 105 (then_letter 110 (past_letter 105 cs)))) cs four

nothing-all : (cs : List ℕ) → is_nothing cs ≡ true → AllOf cs
nothing-all [] h = refl
nothing-all (c ∷ cs) h = absurd (cc)

end-all : (o : Option (List ℕ)) (cs : List ℕ) → Leads o cs → is_end o ≡ true → AllOf cs
end-all None cs leads h = absurd (cc)
end-all (Some ds) cs leads h = leads ds refl (nothing-all ds h)

infinity-by : (b : Bool) (ds cs : List ℕ) → Leads (Some ds) cs → is_nothing ds ≡ b → b || is_end (past_inity ds) ≡ true → AllOf cs
infinity-by true ds cs leads e h = leads ds refl (nothing-all ds e)
infinity-by false ds cs leads e h = leads ds refl (end-all (past_inity ds) ds (inity-leads ds) h)

infinity-all : (o : Option (List ℕ)) (cs : List ℕ) → Leads o cs → ends_infinity o ≡ true → AllOf cs
infinity-all None cs leads h = absurd (cc)
infinity-all (Some ds) cs leads h = infinity-by (is_nothing ds) ds cs leads refl h

unsigned-by : (a b : Bool) (cs : List ℕ) → is_decimal_text cs ≡ a → ends_infinity (past_inf cs) ≡ b → a || b || is_end (past_nan cs) ≡ true → AllOf cs
unsigned-by true b cs e f h = decimal-all cs e
unsigned-by false true cs e f h = infinity-all (past_inf cs) cs (inf-leads cs) f
unsigned-by false false cs e f h = end-all (past_nan cs) cs (nan-leads cs) h

unsigned-all : (cs : List ℕ) → is_unsigned_float cs ≡ true → AllOf cs
unsigned-all cs h = unsigned-by (is_decimal_text cs) (ends_infinity (past_inf cs)) cs refl refl h

-- how such a number begins

-- no sign stands in front
no-plus : (c : ℕ) (cs : List ℕ) → (b : Bool) → (c == 43) ≡ b → is_unsigned_float (c ∷ cs) ≡ true → b ≡ false
no-plus c cs true e h =
    let same : c ≡ 43 = grind (arith, nat_tests) in
    let P : ℕ → Type 0 = λ x. is_unsigned_float (x ∷ cs) ≡ true in
    let clash : false ≡ true = subst P same h in absurd (cc)
no-plus c cs false e h = refl

no-minus : (c : ℕ) (cs : List ℕ) → (b : Bool) → (c == 45) ≡ b → is_unsigned_float (c ∷ cs) ≡ true → b ≡ false
no-minus c cs true e h =
    let same : c ≡ 45 = grind (arith, nat_tests) in
    let P : ℕ → Type 0 = λ x. is_unsigned_float (x ∷ cs) ≡ true in
    let clash : false ≡ true = subst P same h in absurd (cc)
no-minus c cs false e h = refl

word-starts : (c : ℕ) → is_alphanumeric c ≡ true → is_word_start c ≡ true
word-starts c h =
    let signs : is_sign c ≡ false =
    rw (
      apart is_alphanumeric 91 c refl h,
      apart is_alphanumeric 93 c refl h,
      apart is_alphanumeric 123 c refl h,
      apart is_alphanumeric 125 c refl h,
      apart is_alphanumeric 44 c refl h,
      apart is_alphanumeric 45 c refl h,
      apart is_alphanumeric 63 c refl h,
      apart is_alphanumeric 42 c refl h,
      apart is_alphanumeric 38 c refl h,
      apart is_alphanumeric 33 c refl h,
      apart is_alphanumeric 124 c refl h,
      apart is_alphanumeric 62 c refl h,
      apart is_alphanumeric 39 c refl h,
      apart is_alphanumeric 34 c refl h,
      apart is_alphanumeric 37 c refl h,
      apart is_alphanumeric 64 c refl h,
      apart is_alphanumeric 96 c refl h,
    ) refl in
    let number : is_of_number c ≡ true = rw h refl in
    rw (signs, apart is_alphanumeric 46 c refl h, word-of c number) refl

both-left : (a b : Bool) → a && b || false || false ≡ true → a ≡ true
both-left true b h = refl
both-left false b h = absurd (cc)

started : (c : ℕ) (cs : List ℕ) → is_word_start c ≡ true → is_start c cs ≡ true
started c cs h = rw h refl

last-either : (a : Bool) → a || true ≡ true
last-either true = refl
last-either false = refl

started-behind : (c : ℕ) (cs : List ℕ) → (c == 45 || c == 46) ≡ true → is_behind c (slice_index cs 0) ≡ true → is_start c cs ≡ true
started-behind c cs e h = rw (e, h) (last-either (is_word_start c))

behind-by : (c d : ℕ) → is_of_number d ≡ true → (d == c) ≡ false → is_behind c d ≡ true
behind-by c d h e = rw (word-of d h, e) refl

-- after a minus
behind-minus : (cs : List ℕ) → is_unsigned_float cs ≡ true → is_behind 45 (slice_index cs 0) ≡ true
behind-minus [] h = absurd (let clash : false ≡ true = h in cc)
behind-minus (d ∷ cs) h = behind-by 45 d (and_parts (is_of_number d) (list_all is_of_number cs) (unsigned-all (d ∷ cs) h)).0 (no-minus d cs (d == 45) refl h)

-- after a point
point-digit : (d : ℕ) (cs : List ℕ) → is_unsigned_float (46 ∷ d ∷ cs) ≡ true → is_ascii_digit d ≡ true
point-digit d cs h = both-left (is_ascii_digit d) _ h

behind-point-is : (cs : List ℕ) → is_unsigned_float (46 ∷ cs) ≡ true → is_behind 46 (slice_index cs 0) ≡ true
behind-point-is [] h = absurd (let clash : false ≡ true = h in cc)
behind-point-is (d ∷ cs) h = let digit = point-digit d cs h in behind-by 46 d (digit-of d digit) (apart is_ascii_digit 46 d refl digit)

-- a first character that is no sign and no point is a digit or a letter
no-sign-by : (a b c d : Bool) → b ≡ false → c ≡ false → d ≡ false → a || (b || c || d) ≡ true → a ≡ true
no-sign-by true b c d e f g h = refl
no-sign-by false b c d e f g h = let i : b || c || d ≡ false = rw (e, f, g) refl in cc

unsigned-start-by : (b : Bool) (c : ℕ) (cs : List ℕ) → (c == 46) ≡ b → is_unsigned_float (c ∷ cs) ≡ true → is_start c cs ≡ true
unsigned-start-by true c cs e h =
    let same : c ≡ 46 = grind (arith, nat_tests) in
    let P : ℕ → Type 0 = λ x. is_unsigned_float (x ∷ cs) ≡ true in
    let Q : ℕ → Type 0 = λ x. is_start x cs ≡ true in
    subst Q (sym same) (started-behind 46 cs refl (behind-point-is cs (subst P same h)))
unsigned-start-by false c cs e h =
    let one = (and_parts (is_of_number c) (list_all is_of_number cs) (unsigned-all (c ∷ cs) h)).0 in
    started c cs (word-starts c (no-sign-by (is_alphanumeric c) (c == 43) (c == 45) (c == 46) (no-plus c cs (c == 43) refl h) (no-minus c cs (c == 45) refl h) e one))

bare-by : (c : ℕ) (cs : List ℕ) → is_start c cs ≡ true → AllOf cs → is_bare (c ∷ cs) ≡ true
bare-by c cs e h = rw (e, tail-of cs h) refl

unsigned-bare : (cs : List ℕ) → is_unsigned_float cs ≡ true → is_bare cs ≡ true
unsigned-bare [] h = absurd (let clash : false ≡ true = h in cc)
unsigned-bare (c ∷ cs) h = bare-by c cs (unsigned-start-by (c == 46) c cs refl h) (and_parts (is_of_number c) (list_all is_of_number cs) (unsigned-all (c ∷ cs) h)).1

float-by : (a b : Bool) (c : ℕ) (cs : List ℕ) → (c == 43) ≡ a → (c == 45) ≡ b → is_unsigned_float (if a || b then cs else c ∷ cs) ≡ true → is_bare (c ∷ cs) ≡ true
float-by true b c cs e f h =
    let same : c ≡ 43 = grind (arith, nat_tests) in
    let P : ℕ → Type 0 = λ x. is_bare (x ∷ cs) ≡ true in
    subst P (sym same) (bare-by 43 cs refl (unsigned-all cs h))
float-by false true c cs e f h =
    let same : c ≡ 45 = grind (arith, nat_tests) in
    let P : ℕ → Type 0 = λ x. is_bare (x ∷ cs) ≡ true in
    subst P (sym same) (bare-by 45 cs (started-behind 45 cs refl (behind-minus cs h)) (unsigned-all cs h))
float-by false false c cs e f h = unsigned-bare (c ∷ cs) h

float-bare : (cs : List ℕ) → is_float_text cs ≡ true → is_bare cs ≡ true
float-bare [] h = absurd (let clash : false ≡ true = h in cc)
float-bare (c ∷ cs) h = float-by (c == 43) (c == 45) c cs refl refl h

-- the words for numbers

word-bare : (cs word : List ℕ) → is_bare word ≡ true → bytes_eq cs word ≡ true → is_bare cs ≡ true
word-bare cs word h e = let P : List ℕ → Type 0 = λ x. is_bare x ≡ true in subst P (sym (same_word cs word e)) h

signed-bare : (c a : ℕ) (cs word : List ℕ) → is_bare (a ∷ word) ≡ true → (c == a) ≡ true → bytes_eq cs word ≡ true → is_bare (c ∷ cs) ≡ true
signed-bare c a cs word h e f =
    let same : c ≡ a = grind (arith, nat_tests) in
    let P : ℕ → Type 0 = λ x. is_bare (x ∷ cs) ≡ true in
    let Q : List ℕ → Type 0 = λ x. is_bare (a ∷ x) ≡ true in
    subst P (sym same) (subst Q (sym (same_word cs word f)) h)

-- one of three
one-of : (P : Type 0) (a b c : Bool) → (a ≡ true → P) → (b ≡ true → P) → (c ≡ true → P) → a || b || c ≡ true → P
one-of P true b c f g h e = f refl
one-of P false true c f g h e = g refl
one-of P false false true f g h e = h refl
one-of P false false false f g h e = absurd (cc)

one-of-four : (P : Type 0) (a b c d : Bool) → (a ≡ true → P) → (b ≡ true → P) → (c ≡ true → P) → (d ≡ true → P) → a || b || c || d ≡ true → P
one-of-four P true b c d f g h k e = f refl
one-of-four P false true c d f g h k e = g refl
one-of-four P false false true d f g h k e = h refl
one-of-four P false false false true f g h k e = k refl
one-of-four P false false false false f g h k e = absurd (cc)

inf-bare : (cs : List ℕ) → is_inf_word cs ≡ true → is_bare cs ≡ true
inf-bare cs h =
    one-of (is_bare cs ≡ true) (bytes_eq cs (codes ".inf")) (bytes_eq cs (codes ".Inf")) (bytes_eq cs (codes ".INF"))
    (word-bare cs (codes ".inf") refl) (word-bare cs (codes ".Inf") refl) (word-bare cs (codes ".INF") refl) h

inf-signed : (c a : ℕ) (cs : List ℕ) → is_bare (a ∷ codes ".inf") ≡ true → is_bare (a ∷ codes ".Inf") ≡ true → is_bare (a ∷ codes ".INF") ≡ true → (c == a) ≡ true → is_inf_word cs ≡ true
    → is_bare (c ∷ cs) ≡ true
inf-signed c a cs x y z e h =
    one-of (is_bare (c ∷ cs) ≡ true) (bytes_eq cs (codes ".inf")) (bytes_eq cs (codes ".Inf")) (bytes_eq cs (codes ".INF"))
    (signed-bare c a cs (codes ".inf") x e) (signed-bare c a cs (codes ".Inf") y e) (signed-bare c a cs (codes ".INF") z e) h

inf-by : (a b : Bool) (c : ℕ) (cs : List ℕ) → (c == 43) ≡ a → (c == 45) ≡ b → (if a || b then is_inf_word cs else is_inf_word (c ∷ cs)) ≡ true → is_bare (c ∷ cs) ≡ true
inf-by true b c cs e f h = inf-signed c 43 cs refl refl refl e h
inf-by false true c cs e f h = inf-signed c 45 cs refl refl refl f h
inf-by false false c cs e f h = inf-bare (c ∷ cs) h

named-bare : (cs : List ℕ) → is_named_number cs ≡ true → is_bare cs ≡ true
named-bare [] h = absurd (cc)
named-bare (c ∷ cs) h =
    one-of-four (is_bare (c ∷ cs) ≡ true) (if c == 43 || c == 45 then is_inf_word cs else is_inf_word (c ∷ cs))
    (bytes_eq (c ∷ cs) (codes ".nan")) (bytes_eq (c ∷ cs) (codes "NaN")) (bytes_eq (c ∷ cs) (codes ".NAN"))
    (inf-by (c == 43) (c == 45) c cs refl refl) (word-bare (c ∷ cs) (codes ".nan") refl) (word-bare (c ∷ cs) (codes "NaN") refl) (word-bare (c ∷ cs) (codes ".NAN") refl) h

-- what is typed as a number that isn't whole is one of these

no-value : (b : Bool) (x : Plain) (y : Typed) → (if b then value x else y) ≡ real → y ≡ real
no-value true x y h = absurd (cc)
no-value false x y h = h

is-real : (b : Bool) (x : Plain) → (if b then real else value x) ≡ real → b ≡ true
is-real true x h = refl
is-real false x h = absurd (cc)

real-text : (w : List ℕ) → typed w ≡ real → is_float_text w || is_named_number w ≡ true
real-text w h =
    is-real (is_float_text w || is_named_number w) (text w)
    (no-value (is_integer_text w && has_128_bits (number_in 10 w)) (int (number_in 10 w)) _
    (no-value (bytes_eq w (codes "false")) (bool false) _
    (no-value (bytes_eq w (codes "true")) (bool true) _
    (no-value (is_null_word w) null _
    (no-value (is_plus_text w) _ _
    (no-value (is_octal_text w) _ _
    (no-value (is_hexadecimal_text w) _ _ h)))))))

kept-by : (b : Bool) (w : List ℕ) → is_float_text w ≡ b → b || is_named_number w ≡ true → is_bare w ≡ true
kept-by true w e h = float-bare w e
kept-by false w e h = named-bare w h

pub kept-bare : (w : List ℕ) → typed w ≡ real → is_bare w ≡ true
kept-bare w h = kept-by (is_float_text w) w refl (real-text w h)
