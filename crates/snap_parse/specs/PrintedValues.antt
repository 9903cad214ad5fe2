-- The value that is read of a printed tree.
use Rattle.std.specs.Prelude.{ℤ, if◌then◌else◌}
use Rattle.std.specs.Fmt.{signed_decimal}
use Rattle.snap_content.specs.Plain as p
use Rattle.snap_print.specs.Typed.{has_64_bits}
use Rattle.snap_yaml.specs.Value as v

-- a whole number of 64 bits is that number, and any other is kept as its digits
abbrev pub read_number : ℤ → v.Value
read_number z = if has_64_bits z then v.integer z else v.real (signed_decimal z)

-- what is read of a printed tree: a text stays that text, in quotes or not; a whole number of 64 bits is that number, another is kept as
-- its digits
abbrev mutual
  pub read_value : p.Plain → v.Value
  read_value p.null = v.null
  read_value (p.bool b) = v.boolean b
  read_value (p.int z) = read_number z
  read_value (p.text s) = v.string s
  read_value (p.list items) = v.array (read_values items)
  read_value (p.dict entries) = v.hash (read_pairs entries)

  pub read_values : p.Plains → v.Values
  read_values p.no_items = v.no_values
  read_values (p.item x xs) = v.value (read_value x) (read_values xs)

  pub read_pairs : p.Entries → v.ValuePairs
  read_pairs p.no_entries = v.no_pairs
  read_pairs (p.entry k x es) = v.pair (read_value k) (read_value x) (read_pairs es)
