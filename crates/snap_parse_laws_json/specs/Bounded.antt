-- The plain trees whose JSON text a scanner accepts: not too deep, and with keys that are not too long.
use Rattle.std.specs.Prelude.{◌≡◌, ℕ, suc, max, nat_le, nat_lt, length, List, Bool, true, false, not, ◌&&◌, ◌||◌}
use Rattle.snap_content.specs.Plain.{Plain, list, dict, Plains, no_items, item, Entries, no_entries, entry}
use Rattle.snap_json.specs.JsonText.{text_at, key_text, has_refused}
use Rattle.snap_json.specs.declared.format.Format.TheVariants.{Condensed}

abbrev mutual
  -- how many lists and dicts stand in one another at most
  pub levels : Plain → ℕ
  levels (list items) = suc (item_levels items)
  levels (dict entries) = suc (entry_levels entries)
  levels other = 0

  pub item_levels : Plains → ℕ
  item_levels no_items = 0
  item_levels (item p ps) = max (levels p) (item_levels ps)

  pub entry_levels : Entries → ℕ
  entry_levels no_entries = 0
  entry_levels (entry key p es) = max (levels p) (entry_levels es)

-- a key of more than 1,024 characters as it is written, its quotes included
abbrev pub is_long : Plain → Bool
is_long key = nat_lt 1024 (length (key_text key))

-- whether some key is long, at any depth
abbrev mutual
  pub has_long : Plain → Bool
  has_long (list items) = items_long items
  has_long (dict entries) = entries_long entries
  has_long other = false

  pub items_long : Plains → Bool
  items_long no_items = false
  items_long (item p ps) = has_long p || items_long ps

  pub entries_long : Entries → Bool
  entries_long no_entries = false
  entries_long (entry key p es) = is_long key || (has_long p || entries_long es)

-- lists and dicts nest at most 1,023 levels, and no key is long
abbrev pub is_bounded : Plain → Bool
is_bounded p = nat_le (levels p) 1023 && not (has_long p)

-- the text is the condensed JSON of a bounded tree, all of whose keys are texts
abbrev pub IsJsonOf : Plain → List ℕ → Type 0
IsJsonOf p text = (has_refused p ≡ false) × (is_bounded p ≡ true) × (text ≡ text_at Condensed 0 p)
