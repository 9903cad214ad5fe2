-- The lines of a form, and its text by lines and prefixes.
use Rattle.std.specs.Prelude.{ℕ, List, [], ◌∷◌, ◌++◌, map, codes}
use Rattle.std.specs.List.{flat_map}
use Rattle.snap_content.specs.Lines.{ended}
use Rattle.snap_print.specs.Blocks.{block_sign}
use Rattle.snap_print.specs.Lines.{indented, behind, below_sign}
use Rattle.snap_parse_laws.specs.Forms.{Form, Forms, Entry, Entries, scalar, block, hollow, list, dict, last, item, simple, complex, only, pair, spelled, open_sign, close_sign}

-- the lines of an entry with a simple key, from the key as it is written, the value and its lines
abbrev pub key_block : List ℕ → Form → List (List ℕ) → List (List ℕ)
key_block key (scalar s) ls = (key ++ 58 ∷ 32 ∷ spelled s) ∷ []
key_block key (block w kept more) ls = (key ++ 58 ∷ 32 ∷ block_sign kept) ∷ below_sign w kept more
key_block key (hollow q) ls = (key ++ 58 ∷ 32 ∷ open_sign q ∷ close_sign q ∷ []) ∷ []
key_block key (list ts) ls = (key ++ 58 ∷ []) ∷ map indented ls
key_block key (dict es) ls = (key ++ 58 ∷ []) ∷ map indented ls

-- the lines of an item or a value after a mark, from its own
abbrev pub mark_block : ℕ → Form → List (List ℕ) → List (List ℕ)
mark_block mark (scalar s) ls = behind mark ls
mark_block mark (block w kept more) ls = (mark ∷ 32 ∷ block_sign kept) ∷ below_sign w kept more
mark_block mark (hollow q) ls = behind mark ls
mark_block mark (list ts) ls = behind mark ls
mark_block mark (dict es) ls = behind mark ls

abbrev mutual
  -- a block has no lines of its own: it is an item or a value
  pub lines_of : Form → List (List ℕ)
  lines_of (scalar s) = spelled s ∷ []
  lines_of (block w kept more) = []
  lines_of (hollow q) = (open_sign q ∷ close_sign q ∷ []) ∷ []
  lines_of (list ts) = item_lines ts
  lines_of (dict es) = entry_lines es

  pub item_lines : Forms → List (List ℕ)
  item_lines (last t) = mark_block 45 t (lines_of t)
  item_lines (item t ts) = mark_block 45 t (lines_of t) ++ item_lines ts

  pub entry_block : Entry → List (List ℕ)
  entry_block (simple s v) = key_block (spelled s) v (lines_of v)
  entry_block (complex q v) = behind 63 (lines_of q) ++ mark_block 58 v (lines_of v)

  pub entry_lines : Entries → List (List ℕ)
  entry_lines (only e) = entry_block e
  entry_lines (pair e es) = entry_block e ++ entry_lines es

abbrev pub text_of : Form → List ℕ
text_of t = flat_map ended (lines_of t)

-- a document of one tree, by its lines
abbrev pub document_of : Form → List ℕ
document_of t = codes "---\n" ++ text_of t
