-- What stands between the quotes of a literal: characters and escapes, one after the other.
use Rattle.std.specs.Prelude.{ℕ, ◌+◌, ◌*◌, List, [], ◌∷◌, ◌==◌, ◌&&◌, ◌||◌, nat_lt, Option, None, Some, if◌then◌else◌}
use Rattle.std.specs.Char.{digit_value}
use lib.Utf8.{scalar}

-- what the first unit of a source gives, none or one character, and what follows it
abbrev pub Unit_read : Type 0
Unit_read = Option (List ℕ × List ℕ)

-- without the blanks, tabs and line ends at the front
abbrev pub past_blanks : List ℕ → List ℕ
past_blanks [] = []
past_blanks (c ∷ cs) = if c == 32 || c == 9 || c == 10 then past_blanks cs else c ∷ cs

-- the character of an escape of one letter
abbrev pub lettered : ℕ → Option ℕ
lettered c =
    if c == 48 then Some 0 else (
    if c == 116 then Some 9 else (
    if c == 110 then Some 10 else (
    if c == 114 then Some 13 else (
    if c == 34 then Some 34 else (
    if c == 39 then Some 39 else (
    if c == 92 then Some 92 else None))))))

abbrev pub unit_given : Option ℕ → List ℕ → Unit_read
unit_given None rest = None
unit_given (Some c) rest = Some (c ∷ [], rest)

-- after `\x`: two digits below 80
abbrev pub hexadecimal : List ℕ → Unit_read
hexadecimal (a ∷ b ∷ cs) = if nat_lt (digit_value a) 8 && nat_lt (digit_value b) 16 then Some ((digit_value a * 16 + digit_value b) ∷ [], cs) else None
hexadecimal _ = None

-- after `\u{` and some digits, of this count and value: up to six digits of a character
abbrev pub braced : ℕ → ℕ → List ℕ → Unit_read
braced count value [] = None
braced count value (c ∷ cs) =
    if c == 125 then (if nat_lt 0 count && scalar value then Some (value ∷ [], cs) else None)
    else (if nat_lt count 6 && nat_lt (digit_value c) 16 then braced (count + 1) (value * 16 + digit_value c) cs else None)

abbrev pub unicode : List ℕ → Unit_read
unicode [] = None
unicode (c ∷ cs) = if c == 123 then braced 0 0 cs else None

-- after a backslash
abbrev pub escape : List ℕ → Unit_read
escape [] = None
escape (c ∷ cs) =
    if c == 120 then hexadecimal cs else (if c == 117 then unicode cs else (if c == 10 then Some ([], past_blanks cs) else unit_given (lettered c) cs))

-- a character that stands for itself, or an escape
abbrev pub unit_of : List ℕ → Unit_read
unit_of [] = None
unit_of (c ∷ cs) = if c == 92 then escape cs else (if c == 34 || c == 13 then None else Some (c ∷ [], cs))
