-- The plain trees that are read back: every number has at most 128 bits.
use Rattle.std.specs.Prelude.{◌<◌, ◌^◌, ℤ, pos, negsuc, Bool, true, false, not}
use Rattle.snap_content.specs.Plain.{Plain, null, bool, int, text, list, dict, Plains, no_items, item, Entries, no_entries, entry}
use Rattle.snap_content.specs.Quotes.{needs_quotes}

-- a whole number has at most 128 bits: from -2^127 to 2^128 - 1
abbrev pub IsNumber : ℤ → Type 0
IsNumber (pos n) = n < 2 ^ 128
IsNumber (negsuc n) = n < 2 ^ 127

-- every number in a tree has at most 128 bits: from -2^127 to 2^128 - 1
abbrev mutual
  pub IsWithin : Plain → Type 0
  IsWithin null = Unit {0}
  IsWithin (bool b) = Unit {0}
  IsWithin (int z) = IsNumber z
  IsWithin (text s) = Unit {0}
  IsWithin (list items) = AreWithin items
  IsWithin (dict entries) = AreEntriesWithin entries

  pub AreWithin : Plains → Type 0
  AreWithin no_items = Unit {0}
  AreWithin (item p ps) = IsWithin p × AreWithin ps

  pub AreEntriesWithin : Entries → Type 0
  AreEntriesWithin no_entries = Unit {0}
  AreEntriesWithin (entry k v es) = IsWithin k × (IsWithin v × AreEntriesWithin es)

-- a scalar that is written without double quotes
abbrev pub is_word : Plain → Bool
is_word (text s) = not (needs_quotes s)
is_word (list _) = false
is_word (dict _) = false
is_word _ = true
