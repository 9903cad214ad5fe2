-- What every line of a printed text is known by, and the last of them.
use Rattle.std.specs.Prelude.{◌≡◌, ℕ, List, [], ◌∷◌, Bool, true, false, ◌==◌, ◌||◌, ◌&&◌}
use Rattle.std.specs.List.{list_any}
use Rattle.snap_content.specs.Front.{begins}
use Rattle.snap_content.specs.Quotes.{ends_badly}
use Rattle.snap_print.specs.Blocks.{Blocks, off, inside, end, last}

abbrev pub is_break : ℕ → Bool
is_break c = c == 10 || c == 13

abbrev pub begins_dashes : List ℕ → Bool
begins_dashes [] = false
begins_dashes (c ∷ cs) = c == 45 && begins 45 cs

-- a line that is not empty, holds no line's end, ends in no white space, and does not begin with two dashes
pub record IsLine (line : List ℕ) : Type 0 where
  pub first : ℕ
  pub more : List ℕ
  pub is : line ≡ first ∷ more
  pub unbroken : list_any is_break line ≡ false
  pub trimmed : ends_badly line ≡ false
  pub no_dashes : begins_dashes line ≡ false

-- a line that holds no line's end and does not begin with two dashes: so it is no `---`, whatever white space ends it
pub record IsRow (line : List ℕ) : Type 0 where
  pub unbroken : list_any is_break line ≡ false
  pub no_dashes : begins_dashes line ≡ false

-- each of these lines is a row
abbrev pub AreRows : List (List ℕ) → Type 0
AreRows [] = Unit {0}
AreRows (line ∷ lines) = IsRow line × AreRows lines

-- the last line is not empty, and ends in no white space
abbrev pub EndsWell : List (List ℕ) → Type 0
EndsWell [] = ⊥
EndsWell (line ∷ []) = IsLine line
EndsWell (line ∷ next ∷ lines) = EndsWell (next ∷ lines)

-- where white space at the end of a text is lost, none stands there
abbrev pub is_trimmed : Blocks → Bool
is_trimmed off = true
is_trimmed inside = false
is_trimmed end = false
is_trimmed last = true
