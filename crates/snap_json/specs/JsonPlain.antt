-- What JSON keeps of a tree: its plain form, with each key of a map as the text that JSON writes for it.
use Rattle.std.specs.Prelude.{ℕ, ℤ, pos, List, [], ◌∷◌, Option, None, Some}
use Rattle.std.specs.Fmt.{signed_decimal}
use Rattle.snap_content.specs.Tree as t
use Rattle.snap_content.specs.Access.{resolved, whole_number_in}
use Rattle.snap_content.specs.Plain.{Plain, null, bool, int, text, list, dict, Plains, no_items, item, Entries, no_entries, entry, bytes_plain, named}

-- the digits of a number that is there
abbrev pub digits_in : Option ℤ → Option (List ℕ)
digits_in None = None
digits_in (Some z) = Some (signed_decimal z)

-- the text of a key that is no wrapper: a text, the name of a unit variant, the digits of a whole number
abbrev pub text_of_key : t.Tree → Option (List ℕ)
text_of_key (t.string s) = Some s
text_of_key (t.unit_variant name index variant) = Some variant
text_of_key other = digits_in (whole_number_in other)

-- the text that JSON writes for a key of a map; none where it refuses the key
abbrev pub json_key : t.Tree → Option (List ℕ)
json_key key = text_of_key (resolved key)

-- a key that JSON refuses is null, which no accepted key is
abbrev pub key_plain : Option (List ℕ) → Plain
key_plain None = null
key_plain (Some s) = text s

-- what JSON keeps of a tree: its plain form, with each key of a map as the text that JSON writes for it, and null in place of a key that is
-- refused
abbrev mutual
  pub json_plain : t.Tree → Plain
  json_plain (t.bool b) = bool b
  json_plain (t.u8 n) = int (pos n)
  json_plain (t.u16 n) = int (pos n)
  json_plain (t.u32 n) = int (pos n)
  json_plain (t.u64 n) = int (pos n)
  json_plain (t.u128 n) = int (pos n)
  json_plain (t.i8 z) = int z
  json_plain (t.i16 z) = int z
  json_plain (t.i32 z) = int z
  json_plain (t.i64 z) = int z
  json_plain (t.i128 z) = int z
  json_plain (t.char c) = text (c ∷ [])
  json_plain (t.string s) = text s
  json_plain (t.bytes bs) = list (bytes_plain bs)
  json_plain t.none = null
  json_plain (t.some inner) = json_plain inner
  json_plain t.unit = null
  json_plain (t.unit_struct name) = null
  json_plain (t.unit_variant name index variant) = text variant
  json_plain (t.newtype_struct name inner) = json_plain inner
  json_plain (t.newtype_variant name index variant inner) = named variant (json_plain inner)
  json_plain (t.seq items) = list (json_plains items)
  json_plain (t.tuple items) = list (json_plains items)
  json_plain (t.tuple_struct name items) = list (json_plains items)
  json_plain (t.tuple_variant name index variant items) = named variant (list (json_plains items))
  json_plain (t.map pairs) = dict (json_pairs pairs)
  json_plain (t.struct name fields) = dict (json_fields fields)
  json_plain (t.struct_variant name index variant fields) = named variant (dict (json_fields fields))

  pub json_plains : t.Trees → Plains
  json_plains t.no_trees = no_items
  json_plains (t.tree first rest) = item (json_plain first) (json_plains rest)

  pub json_pairs : t.TreePairs → Entries
  json_pairs t.no_pairs = no_entries
  json_pairs (t.pair key value rest) = entry (key_plain (json_key key)) (json_plain value) (json_pairs rest)

  pub json_fields : t.TreeFields → Entries
  json_fields t.no_fields = no_entries
  json_fields (t.field name value rest) = entry (text name) (json_plain value) (json_fields rest)
