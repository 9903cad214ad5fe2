-- The parts of a document that may end with a scalar that is told: none of these has a blank, a sign of flow, a colon or `#` in it, so each
-- stands as a word of its own before one of them, or before the end of a line or of the document.
use Rattle.std.specs.Prelude.{ℕ, List, [], ◌∷◌, Bool, false, not, ◌==◌, ◌||◌, ◌&&◌, is_some, if◌then◌else◌, codes}
use Rattle.std.specs.Char.{is_ascii_alphanumeric}
use Rattle.std.specs.List.{list_any}
use Rattle.std.specs.Str.{drop_trailing_whitespace}
use Rattle.snap_explain_scalars.specs.Elsewhere.{read_elsewhere}

-- the end of a line or of a text, a tab, or a sign before which a plain scalar may end
abbrev pub is_sign : ℕ → Bool
is_sign c = c == 0 || (c == 9 || (c == 10 || (c == 13 || list_any (λ sign. c == sign) (codes ",[]{}:#"))))

-- a letter or a digit comes next
abbrev pub word_follows : List ℕ → Bool
word_follows [] = false
word_follows (c ∷ cs) = is_ascii_alphanumeric c

-- a part ends at the character before this text: no scalar ends at a colon that a letter or a digit follows, as in `12:30`
abbrev pub is_cut : ℕ → List ℕ → Bool
is_cut c cs = is_sign c && not (c == 58 && word_follows cs)

-- the character stands before the first of the parts
abbrev pub in_front : ℕ → List (List ℕ) → List (List ℕ)
in_front c [] = (c ∷ []) ∷ []
in_front c (part ∷ parts) = (c ∷ part) ∷ parts

-- a text as its parts
abbrev pub parts_in : List ℕ → List (List ℕ)
parts_in [] = [] ∷ []
parts_in (c ∷ cs) = if is_cut c cs then [] ∷ parts_in cs else in_front c (parts_in cs)

-- what stands after the last such mark: all of it where there is none
abbrev pub after_last : ℕ → List ℕ → List ℕ
after_last mark [] = []
after_last mark (c ∷ cs) = if list_any (λ d. d == mark) (c ∷ cs) then after_last mark cs else c ∷ cs

-- the last word of a part, blanks at its end aside: a space or a colon, as in `{"a":yes}`, may stand before it
abbrev pub last_word : List ℕ → List ℕ
last_word part = after_last 58 (after_last 32 (drop_trailing_whitespace part))

-- a part ends with a word that is told
abbrev pub ends_otherwise : List ℕ → Bool
ends_otherwise part = is_some (read_elsewhere (last_word part))
