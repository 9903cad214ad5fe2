-- The tree of tokens of a layout.
use Rattle.std.specs.Prelude.{◌++◌}
use Rattle.snap_scan_tokens.specs.declared.token.TScalarStyle.TheVariants as style
use Rattle.snap_parse_laws.specs.Forms.{square, curly, line_ends}
use Rattle.snap_parse_laws.specs.Layouts as w
use Rattle.snap_parse_laws.specs.LayoutTexts as laid
use Rattle.snap_parse_events.specs.TokenTrees.{Tree, scalar, block_list, indentless_list, block_dict, flow_list, flow_dict, Trees, no_items, item, Entries, no_entries, entry}

abbrev pub scalar_tree : w.Scalar → Tree
scalar_tree (w.bare u) = scalar style.Plain u
scalar_tree (w.quote s) = scalar style.DoubleQuoted (laid.characters s)

abbrev pub leaf_tree : w.Leaf → Tree
leaf_tree (w.word s r) = scalar_tree s
leaf_tree (w.empty square r) = flow_list no_items
leaf_tree (w.empty curly r) = flow_dict no_entries
leaf_tree (w.block u count more) = scalar style.Literal (u ++ line_ends count)

abbrev mutual
  pub collection_tree : w.Collection → Tree
  collection_tree (w.list ts) = block_list (items_trees ts)
  collection_tree (w.dict es) = block_dict (entries_trees es)

  pub item_tree : w.Item → Tree
  item_tree (w.piece n v) = leaf_tree v
  item_tree (w.beside n t) = collection_tree t
  item_tree (w.below g n t) = collection_tree t

  pub items_trees : w.Items → Trees
  items_trees (w.last t) = item (item_tree t) no_items
  items_trees (w.item t ts) = item (item_tree t) (items_trees ts)

  pub value_tree : w.Value → Tree
  value_tree (w.piece_of n v) = leaf_tree v
  value_tree (w.below_key g n t) = collection_tree t
  value_tree (w.level g ts) = level_tree ts

  -- at the column of their dict
  pub level_tree : w.Items → Tree
  level_tree (w.last t) = indentless_list (item_tree t) no_items
  level_tree (w.item t ts) = indentless_list (item_tree t) (items_trees ts)

  pub entry_trees : w.Entry → Entries → Entries
  entry_trees (w.simple s v) rest = entry (scalar_tree s) (value_tree v) rest
  entry_trees (w.complex q v) rest = entry (item_tree q) (item_tree v) rest

  pub entries_trees : w.Entries → Entries
  entries_trees (w.only e) = entry_trees e no_entries
  entries_trees (w.pair e es) = entry_trees e (entries_trees es)

abbrev pub layout_tree : w.Layout → Tree
layout_tree (w.leaf v) = leaf_tree v
layout_tree (w.collection t) = collection_tree t
