-- Whether the text of a plain tree ends in a literal block.
use Rattle.std.specs.Prelude.{List, ℕ, Bool, true, false, Option, None, Some}
use Rattle.snap_content.specs.Plain.{Plain, null, bool, int, text, list, dict, Plains, no_items, item, Entries, no_entries, entry}
use Rattle.snap_print.specs.Blocks.{Blocks, as_block}

-- an item or a value ends in a block: it is one, or the last of what it holds ends in one
abbrev pub child_ends : Option (List ℕ) → Bool → Bool
child_ends None below = below
child_ends (Some s) below = true

-- the text of a tree ends in a literal block: the last item or value is one, or the last of what it holds is
abbrev mutual
  pub ends_in_block : Blocks → Plain → Bool
  ends_in_block w null = false
  ends_in_block w (bool b) = false
  ends_in_block w (int z) = false
  ends_in_block w (text s) = false
  ends_in_block w (list items) = items_end w items
  ends_in_block w (dict entries) = entries_end w entries

  pub items_end : Blocks → Plains → Bool
  items_end w no_items = false
  items_end w (item p no_items) = child_ends (as_block w p) (ends_in_block w p)
  items_end w (item p (item q ps)) = items_end w (item q ps)

  pub entries_end : Blocks → Entries → Bool
  entries_end w no_entries = false
  entries_end w (entry k v no_entries) = child_ends (as_block w v) (ends_in_block w v)
  entries_end w (entry k v (entry l x es)) = entries_end w (entry l x es)
