-- Characters that stand as they are between double quotes.
use Rattle.std.specs.Prelude.{◌≡◌, ℕ, List, ◌++◌, Bool, false, ◌==◌, ◌||◌, nat_lt}
use Rattle.std.specs.List.{list_any}

-- a character that stands otherwise between double quotes: the quote, the backslash, those below a blank, and DEL
abbrev pub is_escaped : ℕ → Bool
is_escaped c = c == 34 || c == 92 || nat_lt c 32 || c == 127

-- before the rest of a text only characters stand that stand as they are
pub record IsBareBefore (text rest : List ℕ) : Type 0 where
  pub front : List ℕ
  pub whole : text ≡ front ++ rest
  pub bare : list_any is_escaped front ≡ false
