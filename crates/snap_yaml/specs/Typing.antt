-- What a plain scalar is typed as. No float is computed: a number that is no whole number of 64 bits is kept as its text.
use Rattle.std.specs.Prelude.{ℕ, ℤ, List, [], ◌∷◌, Bool, true, false, not, ◌==◌, ◌||◌, ◌&&◌, nat_lt, Option, None, Some, if◌then◌else◌, codes}
use Rattle.std.specs.Char.{digit_value, is_ascii_digit}
use Rattle.std.specs.List.{list_all, list_any}
use Rattle.std.specs.Str.{bytes_eq}
use Rattle.snap_content.specs.Numbers.{is_nothing, is_float_text}
use Rattle.snap_print.specs.Typed.{number_in, has_64_bits, is_null_word, is_named_number}
use Rattle.snap_yaml.specs.Value.{Value, real, integer, string, boolean, null, bad_value}

-- digits of the base, at least one
abbrev pub is_digits_in : ℕ → List ℕ → Bool
is_digits_in base cs = not (is_nothing cs) && list_all (λ c. nat_lt (digit_value c) base) cs

-- digits of the base, which a sign may precede, whose number has 64 bits
abbrev pub is_integer_in : ℕ → List ℕ → Bool
is_integer_in base [] = false
is_integer_in base (c ∷ cs) = (if c == 43 || c == 45 then is_digits_in base cs else is_digits_in base (c ∷ cs)) && has_64_bits (number_in base (c ∷ cs))

-- the number that they write
abbrev pub integer_of : ℕ → List ℕ → Option ℤ
integer_of base cs = if is_integer_in base cs then Some (number_in base cs) else None

-- the number after `x`, in base sixteen, or `o`, in base eight
abbrev pub behind_zero : List ℕ → Option ℤ
behind_zero [] = None
behind_zero (c ∷ cs) = if c == 120 then integer_of 16 cs else (if c == 111 then integer_of 8 cs else None)

-- the number after `0x`, `0o` or a plus; it may have a sign of its own
abbrev pub prefixed_number : List ℕ → Option ℤ
prefixed_number [] = None
prefixed_number (c ∷ cs) = if c == 43 then integer_of 10 cs else (if c == 48 then behind_zero cs else None)

abbrev pub is_real_text : List ℕ → Bool
is_real_text w = is_float_text w || is_named_number w

abbrev pub integer_or : Option ℤ → Value → Value
integer_or None v = v
integer_or (Some z) v = integer z

-- a number, or a text
abbrev pub typed_number : List ℕ → Value
typed_number w = integer_or (integer_of 10 w) (if is_real_text w then real w else string w)

-- a word with a meaning, a number, or a text
abbrev pub typed_word : List ℕ → Value
typed_word w =
    if is_null_word w then null else (
    if bytes_eq w (codes "true") then boolean true else (
    if bytes_eq w (codes "false") then boolean false else typed_number w))

-- what a plain scalar is typed as, by the first rule that fits
abbrev pub typed_yaml : List ℕ → Value
typed_yaml w = integer_or (prefixed_number w) (typed_word w)

-- a text that begins so may be more than a text
abbrev pub begins_value : List ℕ → Bool
begins_value [] = false
begins_value (c ∷ cs) = is_ascii_digit c || list_any (λ first. c == first) (codes "+-.~nNtfiI")

-- what a text is as a truth, a whole number, a number or a null, and bad where it is none
abbrev pub typed_bool : List ℕ → Value
typed_bool w = if bytes_eq w (codes "true") then boolean true else (if bytes_eq w (codes "false") then boolean false else bad_value)

abbrev pub typed_int : List ℕ → Value
typed_int w = integer_or (integer_of 10 w) bad_value

abbrev pub typed_float : List ℕ → Value
typed_float w = if is_real_text w then real w else bad_value

abbrev pub typed_null : List ℕ → Value
typed_null w = if is_null_word w then null else bad_value

-- a plain scalar after a tag with the handle `!!`
abbrev pub typed_as : List ℕ → List ℕ → Value
typed_as suffix w =
    if bytes_eq suffix (codes "bool") then typed_bool w else (
    if bytes_eq suffix (codes "int") then typed_int w else (
    if bytes_eq suffix (codes "float") then typed_float w else (
    if bytes_eq suffix (codes "null") then typed_null w else string w)))

-- a plain scalar after a tag; another handle, as another suffix, makes a text of it
abbrev pub tagged : List ℕ → List ℕ → List ℕ → Value
tagged handle suffix w = if bytes_eq handle (codes "!!") then typed_as suffix w else string w
