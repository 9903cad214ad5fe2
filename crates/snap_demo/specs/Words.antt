-- The words that ask for a demonstration.
use Rattle.std.specs.Prelude.{◌+◌, ◌-◌, ◌*◌, ◌^◌, ℕ, List, [], ◌∷◌, Option, None, Some, nat_le, if◌then◌else◌, codes}
use Rattle.std.specs.Char.{is_ascii_digit}
use Rattle.std.specs.Str.{bytes_eq}
use Rattle.snap_demo.specs.declared.words.DemoWords.{DemoWords}

-- the number that decimal digits spell behind those of another number; there is none where some character is no digit
abbrev pub digits_number : ℕ → List ℕ → Option ℕ
digits_number n [] = Some n
digits_number n (c ∷ cs) = if is_ascii_digit c then digits_number (n * 10 + (c - 48)) cs else None

-- the number that decimal digits spell, at least one; a sign is no digit, and a leading 0 is one
abbrev pub number_of : List ℕ → Option ℕ
number_of [] = None
number_of (c ∷ cs) = digits_number 0 (c ∷ cs)

-- the number, where it is not above the limit
abbrev pub at_most : ℕ → Option ℕ → Option ℕ
at_most most None = None
at_most most (Some n) = if nat_le n most then Some n else None

abbrev pub demo_of : Option ℕ → Option ℕ → Option DemoWords
demo_of (Some seed) (Some count) = Some (record { seed = seed; count = count })
demo_of (Some seed) None = None
demo_of None count = None

-- the words `demo`, a number below 2 ^ 64 and one up to 10,000
abbrev pub demo_mean : List (List ℕ) → Option DemoWords
demo_mean (command ∷ seed ∷ count ∷ []) =
    if bytes_eq command (codes "demo") then demo_of (at_most (2 ^ 64 - 1) (number_of seed)) (at_most 10000 (number_of count)) else None
demo_mean _ = None
