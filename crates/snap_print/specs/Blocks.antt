-- Literal blocks: which texts are written as one, and by which sign.
use Rattle.std.specs.Prelude.{ℕ, zero, suc, List, [], ◌∷◌, Bool, true, false, not, ◌==◌, ◌&&◌, ◌||◌, nat_le, if◌then◌else◌, codes, Option, None, Some}
use Rattle.std.specs.List.{list_any}
use Rattle.snap_content.specs.Plain.{Plain, null, bool, int, text, list, dict}
use Rattle.snap_content.specs.Quotes.{ends_badly}

-- whether texts are written as literal blocks, and what follows where a tree stands: something, nothing, or nothing where
-- white space at the end is lost
pub data Blocks : Type 0 where
  off : Blocks
  inside : Blocks
  end : Blocks
  last : Blocks

-- where a text as a whole stands, by whether literal blocks are asked for
abbrev pub blocks_if : Bool → Blocks
blocks_if true = last
blocks_if false = off

-- where something follows
abbrev pub before_more : Blocks → Blocks
before_more off = off
before_more inside = inside
before_more end = inside
before_more last = inside

-- more of the text follows
abbrev pub is_inside : Blocks → Bool
is_inside inside = true
is_inside _ = false

abbrev pub before_core : ℕ → List ℕ → List ℕ
before_core c [] = if c == 10 then [] else c ∷ []
before_core c (d ∷ ds) = c ∷ d ∷ ds

-- the text without the line ends at its end
abbrev pub core : List ℕ → List ℕ
core [] = []
core (c ∷ cs) = before_core c (core cs)

abbrev pub counted : ℕ → List ℕ → ℕ → ℕ
counted c [] n = if c == 10 then suc n else n
counted c (d ∷ ds) n = n

-- how many these are
abbrev pub kept_ends : List ℕ → ℕ
kept_ends [] = zero
kept_ends (c ∷ cs) = counted c (core cs) (kept_ends cs)

-- a text may begin a block: with no blank and no line end
abbrev pub begins_block : List ℕ → Bool
begins_block [] = false
begins_block (c ∷ cs) = not (c == 32 || c == 9 || (c == 10 || c == 13))

-- characters that no block can hold
abbrev pub is_unheld : ℕ → Bool
is_unheld c = c == 13 || c == 0

-- a text of several lines that a block can hold
abbrev pub fits_block : List ℕ → Bool
fits_block s = list_any (λ c. c == 10) s && begins_block s && not (list_any is_unheld s)

-- the end is read again where white space there is lost
abbrev pub keeps_end : List ℕ → Bool
keeps_end s = nat_le (kept_ends s) 1 && not (ends_badly (core s))

-- a text that is written as a block, as an item or a value
abbrev pub is_block : Blocks → List ℕ → Bool
is_block off s = false
is_block inside s = fits_block s
is_block end s = fits_block s
is_block last s = fits_block s && keeps_end s

-- the text of what is written as a block
abbrev pub as_block : Blocks → Plain → Option (List ℕ)
as_block w null = None
as_block w (bool b) = None
as_block w (int z) = None
as_block w (text s) = if is_block w s then Some s else None
as_block w (list ps) = None
as_block w (dict es) = None

-- the sign of a block, by how many line ends its text has at its end
abbrev pub block_sign : ℕ → List ℕ
block_sign zero = codes "|-"
block_sign (suc zero) = codes "|"
block_sign (suc (suc n)) = codes "|+"

-- how many empty lines stand after a block: those that count, and where none counts one before what follows
abbrev pub empty_lines : Bool → ℕ → ℕ
empty_lines more (suc (suc n)) = suc n
empty_lines more zero = if more then 1 else 0
empty_lines more (suc zero) = if more then 1 else 0
