-- The form of a plain tree.
use Rattle.std.specs.Prelude.{ℕ, List, [], ◌∷◌, nat_le, if◌then◌else◌, length, Option, Some, None}
use Rattle.std.specs.Fmt.{signed_decimal}
use Rattle.snap_content.specs.Plain.{Plain, null, bool, int, text, list, dict, Plains, no_items, item, Entries, no_entries, entry}
use Rattle.snap_content.specs.Quotes.{needs_quotes}
use Rattle.snap_print.specs.Spell.{spell_bool}
use Rattle.snap_print.specs.Blocks.{Blocks, before_more, is_inside, core, kept_ends, as_block}
use Rattle.snap_print.specs.Lines.{before_items, before_entries}
use Rattle.snap_parse_laws.specs.Forms as f

abbrev pub text_scalar : List ℕ → f.Scalar
text_scalar s = if needs_quotes s then f.quote s else f.bare s

-- the entry of a key that is a scalar, and of another key
abbrev pub entry_of : Option f.Scalar → f.Form → f.Form → f.Entry
entry_of None k v = f.complex k v
entry_of (Some s) k v = if nat_le (length (f.spelled s)) 1024 then f.simple s v else f.complex k v

abbrev pub scalar_of : Plain → Option f.Scalar
scalar_of null = Some (f.bare (126 ∷ []))
scalar_of (bool b) = Some (f.bare (spell_bool b))
scalar_of (int z) = Some (f.bare (signed_decimal z))
scalar_of (text s) = Some (text_scalar s)
scalar_of (list _) = None
scalar_of (dict _) = None

-- an item or a value: a block, or another form
abbrev pub child_of : Blocks → Option (List ℕ) → f.Form → f.Form
child_of w None t = t
child_of w (Some s) t = f.block (core s) (kept_ends s) (is_inside w)

abbrev mutual
  pub form_of : Blocks → Plain → f.Form
  form_of w null = f.scalar (f.bare (126 ∷ []))
  form_of w (bool b) = f.scalar (f.bare (spell_bool b))
  form_of w (int z) = f.scalar (f.bare (signed_decimal z))
  form_of w (text s) = f.scalar (text_scalar s)
  form_of w (list no_items) = f.hollow f.square
  form_of w (list (item p ps)) = f.list (forms_of w (child_of (before_items w ps) (as_block (before_items w ps) p) (form_of (before_items w ps) p)) ps)
  form_of w (dict no_entries) = f.hollow f.curly
  form_of w (dict (entry k v es)) =
      f.dict (entries_of w (entry_of (scalar_of k) (form_of (before_more w) k) (child_of (before_entries w es) (as_block (before_entries w es) v) (form_of (before_entries w es) v))) es)

  pub forms_of : Blocks → f.Form → Plains → f.Forms
  forms_of w first no_items = f.last first
  forms_of w first (item p ps) = f.item first (forms_of w (child_of (before_items w ps) (as_block (before_items w ps) p) (form_of (before_items w ps) p)) ps)

  pub entries_of : Blocks → f.Entry → Entries → f.Entries
  entries_of w first no_entries = f.only first
  entries_of w first (entry k v es) =
      f.pair first
      (entries_of w (entry_of (scalar_of k) (form_of (before_more w) k) (child_of (before_entries w es) (as_block (before_entries w es) v) (form_of (before_entries w es) v))) es)
