-- The lines of a plain tree, with literal blocks or without, and its text.
use Rattle.std.specs.Prelude.{ℕ, zero, suc, List, [], ◌∷◌, ◌++◌, Bool, ◌==◌, ◌&&◌, nat_le, if◌then◌else◌, length, map, codes, Option, None, Some}
use Rattle.std.specs.List.{flat_map}
use Rattle.snap_str.specs.Lines.{onto}
use Rattle.snap_content.specs.Lines.{ended}
use Rattle.snap_content.specs.Plain.{Plain, null, bool, int, text, list, dict, Plains, no_items, item, Entries, no_entries, entry}
use Rattle.snap_print.specs.Spell.{spelling, is_scalar, is_flat}
use Rattle.snap_print.specs.Blocks.{Blocks, before_more, is_inside, as_block, core, kept_ends, block_sign, empty_lines}

-- a text at its line ends: one more lines than these
abbrev pub text_lines : List ℕ → List (List ℕ)
text_lines [] = [] ∷ []
text_lines (c ∷ cs) = if c == 10 then [] ∷ text_lines cs else onto c (text_lines cs)

-- a line of a block, which may be empty
abbrev pub two_in : List ℕ → List ℕ
two_in line = 32 ∷ 32 ∷ line

abbrev pub empties : ℕ → List (List ℕ)
empties zero = []
empties (suc n) = [] ∷ empties n

-- the lines below the sign of a block
abbrev pub below_sign : List ℕ → ℕ → Bool → List (List ℕ)
below_sign w kept more = map two_in (text_lines w) ++ empties (empty_lines more kept)

abbrev pub block_lines : Blocks → List ℕ → List (List ℕ)
block_lines w s = below_sign (core s) (kept_ends s) (is_inside w)

-- a line two columns further in, if it is not empty
abbrev pub indented : List ℕ → List ℕ
indented [] = []
indented (c ∷ cs) = 32 ∷ 32 ∷ c ∷ cs

-- the first line after a mark and a blank, the others two columns further in
abbrev pub behind : ℕ → List (List ℕ) → List (List ℕ)
behind mark [] = []
behind mark (first ∷ rest) = (mark ∷ 32 ∷ first) ∷ map indented rest

-- an item or a value after a mark: a block, or other lines
abbrev pub marked : Blocks → ℕ → Option (List ℕ) → List (List ℕ) → List (List ℕ)
marked w mark None lines = behind mark lines
marked w mark (Some s) lines = (mark ∷ 32 ∷ block_sign (kept_ends s)) ∷ block_lines w s

-- a value after its key and a colon
abbrev pub keyed : Blocks → List ℕ → Plain → Option (List ℕ) → List (List ℕ) → List (List ℕ)
keyed w key value None lines = if is_flat value then (key ++ 58 ∷ 32 ∷ spelling value) ∷ [] else (key ++ 58 ∷ []) ∷ map indented lines
keyed w key value (Some s) lines = (key ++ 58 ∷ 32 ∷ block_sign (kept_ends s)) ∷ block_lines w s

-- a key that is written before a colon
abbrev pub is_simple : Plain → Bool
is_simple key = is_scalar key && nat_le (length (spelling key)) 1024

-- the lines of an entry, from its key and value and the lines of both; w is where the value stands
abbrev pub entry_block : Blocks → Plain → Plain → List (List ℕ) → List (List ℕ) → List (List ℕ)
entry_block w key value key_lines value_lines =
    if is_simple key then keyed w (spelling key) value (as_block w value) value_lines
    else behind 63 key_lines ++ marked w 58 (as_block w value) value_lines

-- where an item or a value stands, by what follows it there
abbrev pub before_items : Blocks → Plains → Blocks
before_items w no_items = w
before_items w (item p ps) = before_more w

abbrev pub before_entries : Blocks → Entries → Blocks
before_entries w no_entries = w
before_entries w (entry k v es) = before_more w

-- the lines of a tree: a scalar is one; an item's come after `- ` and two blanks, a value's after its key and a colon, or after `? ` and `:
-- ` where the key is not simple
abbrev mutual
  pub lines_of : Blocks → Plain → List (List ℕ)
  lines_of w null = codes "~" ∷ []
  lines_of w (bool b) = spelling (bool b) ∷ []
  lines_of w (int z) = spelling (int z) ∷ []
  lines_of w (text s) = spelling (text s) ∷ []
  lines_of w (list no_items) = codes "[]" ∷ []
  lines_of w (list (item p ps)) = marked (before_items w ps) 45 (as_block (before_items w ps) p) (lines_of (before_items w ps) p) ++ item_lines w ps
  lines_of w (dict no_entries) = codes "{}" ∷ []
  lines_of w (dict (entry k v es)) =
      entry_block (before_entries w es) k v (lines_of (before_more w) k) (lines_of (before_entries w es) v) ++ entry_lines w es

  pub item_lines : Blocks → Plains → List (List ℕ)
  item_lines w no_items = []
  item_lines w (item p ps) = marked (before_items w ps) 45 (as_block (before_items w ps) p) (lines_of (before_items w ps) p) ++ item_lines w ps

  pub entry_lines : Blocks → Entries → List (List ℕ)
  entry_lines w no_entries = []
  entry_lines w (entry k v es) =
      entry_block (before_entries w es) k v (lines_of (before_more w) k) (lines_of (before_entries w es) v) ++ entry_lines w es

-- the text of a tree: its lines, each with its end
abbrev pub text_of : Blocks → Plain → List ℕ
text_of w p = flat_map ended (lines_of w p)

-- a document of one tree
abbrev pub document_of : Blocks → Plain → List ℕ
document_of w p = codes "---\n" ++ text_of w p
