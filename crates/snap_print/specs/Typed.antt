-- What a reader takes a word for, that stands without quotes.
use Rattle.std.specs.Prelude.{ℕ, zero, suc, ◌^◌, ℤ, pos, negsuc, List, [], ◌∷◌, Bool, true, false, not, ◌==◌, ◌||◌, ◌&&◌, nat_lt, if◌then◌else◌, drop, codes}
use Rattle.std.specs.Char.{digit_value}
use Rattle.std.specs.List.{list_all}
use Rattle.std.specs.Str.{bytes_eq}
use Rattle.std.specs.Str.Parse.{digits_value}
use Rattle.snap_content.specs.Plain.{Plain, null, bool, int, text}
use Rattle.snap_content.specs.Numbers.{is_nothing, is_integer_text, is_float_text, is_octal_text, is_plus_text}
use Rattle.snap_content.specs.Quotes.{starts_as_hexadecimal}

-- a tree, or a number that is no whole number of 128 bits
pub data Typed : Type 0 where
  value : Plain → Typed
  real : Typed

abbrev pub below_zero : ℕ → ℤ
below_zero zero = pos zero
below_zero (suc n) = negsuc n

-- the number of a sign and digits
abbrev pub number_in : ℕ → List ℕ → ℤ
number_in base [] = pos zero
number_in base (c ∷ cs) =
    if c == 45 then below_zero (digits_value base cs) else (
    if c == 43 then pos (digits_value base cs) else pos (digits_value base (c ∷ cs)))

abbrev pub has_128_bits : ℤ → Bool
has_128_bits (pos n) = nat_lt n (2 ^ 128)
has_128_bits (negsuc n) = nat_lt n (2 ^ 127)

abbrev pub has_64_bits : ℤ → Bool
has_64_bits (pos n) = nat_lt n (2 ^ 63)
has_64_bits (negsuc n) = nat_lt n (2 ^ 63)

abbrev pub is_hexadecimal_digits : List ℕ → Bool
is_hexadecimal_digits cs = not (is_nothing cs) && list_all (λ c. nat_lt (digit_value c) 16) cs

abbrev pub is_hexadecimal_integer : List ℕ → Bool
is_hexadecimal_integer [] = false
is_hexadecimal_integer (c ∷ cs) = (if c == 43 || c == 45 then is_hexadecimal_digits cs else is_hexadecimal_digits (c ∷ cs)) && has_64_bits (number_in 16 (c ∷ cs))

abbrev pub is_hexadecimal_text : List ℕ → Bool
is_hexadecimal_text cs = starts_as_hexadecimal cs && is_hexadecimal_integer (drop 2 cs)

abbrev pub is_null_word : List ℕ → Bool
is_null_word cs = bytes_eq cs (codes "~") || bytes_eq cs (codes "null")

-- the words for what is infinite or no number, with the sign that may stand before
abbrev pub is_inf_word : List ℕ → Bool
is_inf_word cs = bytes_eq cs (codes ".inf") || bytes_eq cs (codes ".Inf") || bytes_eq cs (codes ".INF")

abbrev pub is_named_number : List ℕ → Bool
is_named_number [] = false
is_named_number (c ∷ cs) =
    (if c == 43 || c == 45 then is_inf_word cs else is_inf_word (c ∷ cs)) || bytes_eq (c ∷ cs) (codes ".nan") || bytes_eq (c ∷ cs) (codes "NaN") || bytes_eq (c ∷ cs) (codes ".NAN")

-- what a reader takes a bare word for, by the first rule that fits
abbrev pub typed : List ℕ → Typed
typed w =
    if is_hexadecimal_text w then value (int (number_in 16 (drop 2 w))) else (
    if is_octal_text w then value (int (number_in 8 (drop 2 w))) else (
    if is_plus_text w then value (int (number_in 10 (drop 1 w))) else (
    if is_null_word w then value null else (
    if bytes_eq w (codes "true") then value (bool true) else (
    if bytes_eq w (codes "false") then value (bool false) else (
    if is_integer_text w && has_128_bits (number_in 10 w) then value (int (number_in 10 w)) else (
    if is_float_text w || is_named_number w then real else value (text w))))))))
