-- The numbers that stand in a text, as pieces of it.
use Rattle.std.specs.Prelude.{◌≡◌, ◌==◌, ◌||◌, ℕ, List, [], ◌∷◌, ◌++◌, Bool, true, false, not, if◌then◌else◌}
use Rattle.std.specs.List.{list_any}
use Rattle.snap_str.specs.Lines.{onto}
use Rattle.snap_yaml.specs.Typing.{typed_yaml}
use Rattle.snap_yaml.specs.Value.{Value, real}
use Rattle.snap_emit.specs.PlainRead.{is_whole}

-- a blank, a line's end, a NUL, a comma, a colon or a bracket
abbrev pub ends_piece : ℕ → Bool
ends_piece c =
    (c == 32 || c == 9) || (c == 10 || c == 13) || c == 0 || (c == 44 || c == 58) || (c == 91 || c == 93) || (c == 123 || c == 125)

-- the text, cut at each of these
abbrev pub pieces : List ℕ → List (List ℕ)
pieces [] = [] ∷ []
pieces (c ∷ cs) = if ends_piece c then [] ∷ pieces cs else onto c (pieces cs)

-- the text is its first piece, what ends it, and more
pub record IsPieceThen (text piece more : List ℕ) : Type 0 where
  pub end : ℕ
  pub is : text ≡ piece ++ end ∷ more
  pub ends : ends_piece end ≡ true
  pub whole : list_any ends_piece piece ≡ false

-- the value is a number, and no whole number of 128 bits
abbrev pub is_beyond : Value → Bool
is_beyond (real w) = not (is_whole w)
is_beyond _ = false

-- the piece is such a number
abbrev pub is_number_piece : List ℕ → Bool
is_number_piece piece = is_beyond (typed_yaml piece)

abbrev pub has_number_piece : List ℕ → Bool
has_number_piece text = list_any is_number_piece (pieces text)
