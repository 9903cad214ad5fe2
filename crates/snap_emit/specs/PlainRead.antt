-- The plain tree that a value of YAML is read as.
use Rattle.std.specs.Prelude.{◌≡◌, ℕ, ℤ, List, Bool, false, not, ◌||◌, ◌&&◌, Option, None, Some, option_map, option_and_then, is_some, if◌then◌else◌}
use Rattle.snap_content.specs.Numbers.{is_integer_text}
use Rattle.snap_content.specs.Plain as p
use Rattle.snap_content.specs.Tree.{Tree}
use Rattle.snap_content.specs.View.{tree}
use Rattle.snap_content.specs.declared.content.Content.{Content}
use Rattle.snap_print.specs.Typed.{number_in, has_128_bits}
use Rattle.snap_yaml.specs.Value.{Value, real, integer, string, boolean, array, hash, null, bad_value, Values, no_values, value, ValuePairs, no_pairs, pair}

-- the text of a whole number of at most 128 bits
abbrev pub is_whole : List ℕ → Bool
is_whole w = is_integer_text w && has_128_bits (number_in 10 w)

-- the tree of such a number
abbrev pub whole_tree : ℤ → Option Tree
whole_tree z = if has_128_bits z then Some (p.number_tree z) else None

-- a number that is kept as its text is the whole number that it is, and else it stays the text
abbrev pub number_read : List ℕ → p.Plain
number_read w = if is_whole w then p.int (number_in 10 w) else p.text w

-- none where a bad value stands in it
abbrev mutual
  pub plain_read : Value → Option p.Plain
  plain_read (real w) = Some (number_read w)
  plain_read (integer z) = Some (p.int z)
  plain_read (string s) = Some (p.text s)
  plain_read (boolean b) = Some (p.bool b)
  plain_read (array vs) = option_map p.list (plains_read vs)
  plain_read (hash ps) = option_map p.dict (entries_read ps)
  plain_read null = Some p.null
  plain_read bad_value = None

  pub plains_read : Values → Option p.Plains
  plains_read no_values = Some p.no_items
  plains_read (value v vs) = option_and_then (λ first. option_map (p.item first) (plains_read vs)) (plain_read v)

  pub entries_read : ValuePairs → Option p.Entries
  entries_read no_pairs = Some p.no_entries
  entries_read (pair k v ps) =
      option_and_then (λ key. option_and_then (λ value. option_map (p.entry key value) (entries_read ps)) (plain_read v)) (plain_read k)

-- a number stands in the value that is kept as its text, since it is no whole number of 128 bits
abbrev mutual
  pub has_number_text : Value → Bool
  has_number_text (real w) = not (is_whole w)
  has_number_text (array vs) = have_number_texts vs
  has_number_text (hash ps) = are_number_texts_in ps
  has_number_text _ = false

  pub have_number_texts : Values → Bool
  have_number_texts no_values = false
  have_number_texts (value v vs) = has_number_text v || have_number_texts vs

  pub are_number_texts_in : ValuePairs → Bool
  are_number_texts_in no_pairs = false
  are_number_texts_in (pair k v ps) = has_number_text k || (has_number_text v || are_number_texts_in ps)

-- such a number stands in the value, and all that stands before it is a tree
abbrev mutual
  pub is_number_first : Value → Bool
  is_number_first (real w) = not (is_whole w)
  is_number_first (array vs) = is_number_first_of vs
  is_number_first (hash ps) = is_number_first_in ps
  is_number_first _ = false

  -- in the first item or, where that is a tree, in the others
  pub is_number_first_of : Values → Bool
  is_number_first_of no_values = false
  is_number_first_of (value v vs) = is_number_first v || (is_some (plain_read v) && is_number_first_of vs)

  pub is_number_first_in : ValuePairs → Bool
  is_number_first_in no_pairs = false
  is_number_first_in (pair k v ps) =
      is_number_first k || (is_some (plain_read k) && (is_number_first v || (is_some (plain_read v) && is_number_first_in ps)))

-- the tree is that of a plain tree
pub record IsPlain (made : Content) : Type 0 where
  pub plain : p.Plain
  pub tree_is : tree made ≡ p.content_of plain
