-- The value of a layout: that of its tree, a bare text typed as it is, a text in quotes the characters that its letters stand for,
-- and a literal block its text. How lines end, where blanks and comments stand and in which columns doesn't matter.
use Rattle.std.specs.Prelude.{◌++◌}
use Rattle.snap_parse_laws.specs.Forms.{square, curly, line_ends}
use Rattle.snap_parse_laws.specs.Layouts as w
use Rattle.snap_parse_laws.specs.LayoutTexts.{characters}
use Rattle.snap_yaml.specs.Typing.{typed_yaml}
use Rattle.snap_yaml.specs.Value as v

abbrev pub scalar_value : w.Scalar → v.Value
scalar_value (w.bare u) = typed_yaml u
scalar_value (w.quote s) = v.string (characters s)

abbrev pub leaf_value : w.Leaf → v.Value
leaf_value (w.word s r) = scalar_value s
leaf_value (w.empty square r) = v.array v.no_values
leaf_value (w.empty curly r) = v.hash v.no_pairs
leaf_value (w.block u count more) = v.string (u ++ line_ends count)

abbrev mutual
  pub collection_value : w.Collection → v.Value
  collection_value (w.list ts) = v.array (items_values ts)
  collection_value (w.dict es) = v.hash (entries_values es)

  pub item_value : w.Item → v.Value
  item_value (w.piece n x) = leaf_value x
  item_value (w.beside n t) = collection_value t
  item_value (w.below g n t) = collection_value t

  pub items_values : w.Items → v.Values
  items_values (w.last t) = v.value (item_value t) v.no_values
  items_values (w.item t ts) = v.value (item_value t) (items_values ts)

  -- of the value of a key
  pub keyed_value : w.Value → v.Value
  keyed_value (w.piece_of n x) = leaf_value x
  keyed_value (w.below_key g n t) = collection_value t
  keyed_value (w.level g ts) = v.array (items_values ts)

  pub entry_values : w.Entry → v.ValuePairs → v.ValuePairs
  entry_values (w.simple s x) rest = v.pair (scalar_value s) (keyed_value x) rest
  entry_values (w.complex q x) rest = v.pair (item_value q) (item_value x) rest

  pub entries_values : w.Entries → v.ValuePairs
  entries_values (w.only e) = entry_values e v.no_pairs
  entries_values (w.pair e es) = entry_values e (entries_values es)

-- the value of a layout: that of its tree, whatever the breaks, blanks, comments and columns are
abbrev pub layout_value : w.Layout → v.Value
layout_value (w.leaf x) = leaf_value x
layout_value (w.collection t) = collection_value t
