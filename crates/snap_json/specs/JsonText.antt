-- The JSON text of a tree, in each layout, and the trees that have none.
use Rattle.std.specs.Prelude.{ℕ, ◌+◌, List, [], ◌++◌, Bool, true, false, ◌||◌, codes, length, nat_le, if◌then◌else◌}
use Rattle.std.specs.Fmt.{signed_decimal}
use Rattle.snap_content.specs.Tree.{Tree}
use Rattle.snap_content.specs.Plain.{Plain, null, bool, int, text, list, dict, Plains, no_items, item, Entries, no_entries, entry}
use Rattle.snap_print.specs.Spell.{spell_bool}
use Rattle.snap_json.specs.Strings.{json_string}
use Rattle.snap_json.specs.Layout.{opening, closing, comma, colon}
use Rattle.snap_json.specs.JsonPlain.{json_plain}
use Rattle.snap_json.specs.declared.format.Format.{Format}
use Rattle.snap_json.specs.declared.format.Format.TheVariants.{SingleLine, Pretty}

-- a key; nothing else than a text is one
abbrev pub key_text : Plain → List ℕ
key_text (text s) = json_string s
key_text other = []

-- a key up to its value
abbrev pub member_text : Format → Plain → List ℕ
member_text layout key = key_text key ++ colon layout

-- the text of a plain tree whose first line stands at a column
abbrev mutual
  pub text_at : Format → ℕ → Plain → List ℕ
  text_at layout k null = codes "null"
  text_at layout k (bool b) = spell_bool b
  text_at layout k (int z) = signed_decimal z
  text_at layout k (text s) = json_string s
  text_at layout k (list no_items) = codes "[]"
  text_at layout k (list (item p ps)) =
      opening layout (k + 2) 91 ++ (text_at layout (k + 2) p ++ (items_at layout (k + 2) ps ++ closing layout k 93))
  text_at layout k (dict no_entries) = codes "{}"
  text_at layout k (dict (entry key p es)) =
      opening layout (k + 2) 123 ++ ((member_text layout key ++ text_at layout (k + 2) p) ++ (entries_at layout (k + 2) es ++ closing layout k 125))

  -- further items
  pub items_at : Format → ℕ → Plains → List ℕ
  items_at layout k no_items = []
  items_at layout k (item p ps) = (comma layout k ++ text_at layout k p) ++ items_at layout k ps

  -- further entries
  pub entries_at : Format → ℕ → Entries → List ℕ
  entries_at layout k no_entries = []
  entries_at layout k (entry key p es) = (comma layout k ++ (member_text layout key ++ text_at layout k p)) ++ entries_at layout k es

-- the JSON text of a tree, in a layout
abbrev pub json_text : Format → Tree → List ℕ
json_text layout tree = text_at layout 0 (json_plain tree)

-- whether a key is none that JSON writes
abbrev pub is_refused : Plain → Bool
is_refused (text s) = false
is_refused other = true

-- whether some key is refused, at any depth
abbrev mutual
  pub has_refused : Plain → Bool
  has_refused (list items) = items_refused items
  has_refused (dict entries) = entries_refused entries
  has_refused other = false

  pub items_refused : Plains → Bool
  items_refused no_items = false
  items_refused (item p ps) = has_refused p || items_refused ps

  pub entries_refused : Entries → Bool
  entries_refused no_entries = false
  entries_refused (entry key p es) = is_refused key || (has_refused p || entries_refused es)

-- some key of a map in the tree, at any depth, is one that JSON refuses
abbrev pub json_refuses : Tree → Bool
json_refuses tree = has_refused (json_plain tree)

-- on a single line where that has at most 120 characters, else with each element on a line of its own
abbrev pub compact_text : Tree → List ℕ
compact_text tree = if nat_le (length (json_text SingleLine tree)) 120 then json_text SingleLine tree else json_text Pretty tree
