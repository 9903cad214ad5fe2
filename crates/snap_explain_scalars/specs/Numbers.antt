-- Scalars that begin with a digit or a sign, and that others take otherwise. Not told: numbers of base sixty and times, as `12:30`, and dates
-- with a time, whose colons end the words that are looked at first; and numbers that our reader refuses, as floats.
use Rattle.std.specs.Prelude.{ℕ, ◌+◌, ◌*◌, ◌^◌, List, [], ◌∷◌, Bool, true, false, not, ◌==◌, ◌||◌, ◌&&◌, nat_lt, Option, None, Some, if◌then◌else◌, codes}
use Rattle.std.specs.Char.{digit_value, is_ascii_digit, is_ascii_hexdigit}
use Rattle.std.specs.List.{list_all, list_any}
use Rattle.snap_content.specs.Numbers.{is_nothing, is_octal_text, is_plus_text, past_sign}
use Rattle.snap_explain_scalars.specs.declared.otherwise.Otherwise.{Otherwise}
use Rattle.snap_explain_scalars.specs.declared.otherwise.Otherwise.TheVariants as o

-- such characters, at least one
abbrev pub is_run : (ℕ → Bool) → List ℕ → Bool
is_run passes cs = not (is_nothing cs) && list_all passes cs

-- a zero, and digits after it: some read them in base eight, and some as a text
abbrev pub is_zero_led : List ℕ → Bool
is_zero_led [] = false
is_zero_led (c ∷ cs) = c == 48 && is_run is_ascii_digit cs

-- a digit or an underscore, in base ten, two and sixteen
abbrev pub is_decimal_character : ℕ → Bool
is_decimal_character c = is_ascii_digit c || c == 95

abbrev pub is_binary_character : ℕ → Bool
is_binary_character c = c == 48 || (c == 49 || c == 95)

abbrev pub is_hexadecimal_character : ℕ → Bool
is_hexadecimal_character c = is_ascii_hexdigit c || c == 95

abbrev pub is_underscore : ℕ → Bool
is_underscore c = c == 95

-- digits with an underscore among them or behind, as `1_000`
abbrev pub is_grouped : List ℕ → Bool
is_grouped [] = false
is_grouped (c ∷ cs) = is_ascii_digit c && (list_any is_underscore cs && list_all is_decimal_character cs)

-- what follows a zero and a letter
abbrev pub after_base : ℕ → List ℕ → Option (List ℕ)
after_base letter [] = None
after_base letter (c ∷ []) = None
after_base letter (c ∷ d ∷ cs) = if c == 48 && d == letter then Some cs else None

abbrev pub is_run_behind : (ℕ → Bool) → Option (List ℕ) → Bool
is_run_behind passes None = false
is_run_behind passes (Some cs) = is_run passes cs

-- `0b`, then digits of base two, perhaps with underscores
abbrev pub is_binary : List ℕ → Bool
is_binary w = is_run_behind is_binary_character (after_base 98 w)

-- `0x`, then digits of base sixteen, perhaps with underscores
abbrev pub is_hexadecimal : List ℕ → Bool
is_hexadecimal w = is_run_behind is_hexadecimal_character (after_base 120 w)

-- digits of base sixteen whose number, after the digits of n, has 64 bits with its sign
abbrev pub stays_short : ℕ → List ℕ → Bool
stays_short n [] = nat_lt n (2 ^ 63)
stays_short n (c ∷ cs) = nat_lt n (2 ^ 63) && (nat_lt (digit_value c) 16 && stays_short (n * 16 + digit_value c) cs)

abbrev pub is_short_behind : Option (List ℕ) → Bool
is_short_behind None = false
is_short_behind (Some cs) = not (is_nothing (past_sign cs)) && stays_short 0 (past_sign cs)

-- `0x`, then what our reader takes for a number of base sixteen: after a sign, if it has one, digits alone, whose number has 64 bits
abbrev pub is_hexadecimal_here : List ℕ → Bool
is_hexadecimal_here w = is_short_behind (after_base 120 w)

-- a character fits a sign of a shape: a digit where that is a zero, and else the sign itself
abbrev pub fits_sign : ℕ → ℕ → Bool
fits_sign sign c = if sign == 48 then is_ascii_digit c else c == sign

-- the characters fit those of the shape, one by one
abbrev pub fits : List ℕ → List ℕ → Bool
fits [] [] = true
fits [] (c ∷ cs) = false
fits (sign ∷ signs) [] = false
fits (sign ∷ signs) (c ∷ cs) = fits_sign sign c && fits signs cs

abbrev pub is_date : List ℕ → Bool
is_date w = fits (codes "0000-00-00") w

-- a number of base sixteen is told where either we or the others take it for one alone
abbrev pub hexadecimal_elsewhere : Bool → Bool → Option Otherwise
hexadecimal_elsewhere true true = None
hexadecimal_elsewhere true false = Some o.Text
hexadecimal_elsewhere false true = Some o.Number
hexadecimal_elsewhere false false = None

-- how others take such a scalar, by the first rule that fits: after a sign a zero and digits; `0o17`, and what has a plus before it; after a sign
-- digits with underscores, and base two; a date; base sixteen
abbrev pub number_elsewhere : List ℕ → Option Otherwise
number_elsewhere w =
    if is_zero_led (past_sign w) then Some o.TextOrNumber else (
    if is_octal_text w || is_plus_text w then Some o.Text else (
    if is_grouped (past_sign w) || is_binary (past_sign w) then Some o.Number else (
    if is_date w then Some o.Date else hexadecimal_elsewhere (is_hexadecimal_here w) (is_hexadecimal (past_sign w)))))
