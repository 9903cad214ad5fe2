-- Whether the text of a form ends in a literal block.
use Rattle.std.specs.Prelude.{Bool, true, false}
use Rattle.snap_parse_laws.specs.Forms.{Form, scalar, block, hollow, list, dict, Forms, last, item, Entry, simple, complex, Entries, only, pair}

abbrev mutual
  pub ends_in_block : Form → Bool
  ends_in_block (scalar s) = false
  ends_in_block (block w kept more) = true
  ends_in_block (hollow q) = false
  ends_in_block (list ts) = forms_end ts
  ends_in_block (dict es) = entries_end es

  pub forms_end : Forms → Bool
  forms_end (last t) = ends_in_block t
  forms_end (item t ts) = forms_end ts

  pub entry_ends : Entry → Bool
  entry_ends (simple s v) = ends_in_block v
  entry_ends (complex q v) = ends_in_block v

  pub entries_end : Entries → Bool
  entries_end (only e) = entry_ends e
  entries_end (pair e es) = entries_end es
