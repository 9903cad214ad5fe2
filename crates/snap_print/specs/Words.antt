-- How reserved words and numbers begin.
use Rattle.std.specs.Prelude.{ℕ, List, [], ◌∷◌, Bool, true, false, ◌||◌, ◌&&◌, ◌==◌, ◌+◌, codes}
use Rattle.std.specs.Char.{is_ascii_digit}
use Rattle.std.specs.List.{list_any}

-- the letter, in either case
abbrev pub is_letter : ℕ → ℕ → Bool
is_letter letter c = c == letter || c + 32 == letter

-- the first two of a word are these letters
abbrev pub spells : ℕ → ℕ → ℕ × ℕ → Bool
spells c d letters = is_letter letters.0 c && is_letter letters.1 d

-- how the words begin that begin with a letter: nan, infinity, no, null, yes, true, false, on, off
abbrev pub fronts : List (ℕ × ℕ)
fronts = (110, 97) ∷ (105, 110) ∷ (110, 111) ∷ (110, 117) ∷ (121, 101) ∷ (116, 114) ∷ (102, 97) ∷ (111, 110) ∷ (111, 102) ∷ []

abbrev pub fronts_word : ℕ → ℕ → Bool
fronts_word c d = is_ascii_digit c || list_any (λ first. c == first) (codes "~+-.") || list_any (spells c d) fronts

-- a text that begins otherwise is neither a reserved word nor a number
abbrev pub begins_word : List ℕ → Bool
begins_word [] = false
begins_word (c ∷ []) = true
begins_word (c ∷ d ∷ cs) = fronts_word c d
