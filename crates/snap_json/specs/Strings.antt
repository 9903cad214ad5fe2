-- Texts between double quotes.
use Rattle.std.specs.Prelude.{ℕ, List, [], ◌∷◌, ◌++◌, ◌==◌, nat_lt, if◌then◌else◌, codes}
use Rattle.std.specs.List.{flat_map}
use Rattle.snap_print.specs.Spell.{escaped_code}

-- a character between double quotes: those below a blank are escaped, and the quote and the backslash
abbrev pub json_escaped : ℕ → List ℕ
json_escaped c =
    if c == 34 then codes "\\\"" else (
    if c == 92 then codes "\\\\" else (
    if c == 8 then codes "\\b" else (
    if c == 9 then codes "\\t" else (
    if c == 10 then codes "\\n" else (
    if c == 12 then codes "\\f" else (
    if c == 13 then codes "\\r" else (
    if nat_lt c 32 then escaped_code c else c ∷ [])))))))

-- a text between double quotes, with escapes
abbrev pub json_string : List ℕ → List ℕ
json_string s = 34 ∷ (flat_map json_escaped s ++ 34 ∷ [])
