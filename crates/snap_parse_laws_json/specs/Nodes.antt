-- The tree of tokens and the node of a plain tree, as its JSON text shows them.
use Rattle.std.specs.Prelude.{None, codes}
use Rattle.std.specs.Fmt.{signed_decimal}
use Rattle.snap_content.specs.Plain as p
use Rattle.snap_print.specs.Spell.{spell_bool}
use Rattle.snap_scan_tokens.specs.declared.token.TScalarStyle.TheVariants as style
use Rattle.snap_parse_events.specs.Nodes as n
use Rattle.snap_parse_events.specs.TokenTrees.{Tree, scalar, flow_list, flow_dict, Trees, no_items, item, Entries, no_entries, entry}

-- all of it in flow, its texts in quotes
abbrev mutual
  pub json_tree : p.Plain → Tree
  json_tree p.null = scalar style.Plain (codes "null")
  json_tree (p.bool b) = scalar style.Plain (spell_bool b)
  json_tree (p.int z) = scalar style.Plain (signed_decimal z)
  json_tree (p.text s) = scalar style.DoubleQuoted s
  json_tree (p.list items) = flow_list (json_trees items)
  json_tree (p.dict entries) = flow_dict (json_entries entries)

  pub json_trees : p.Plains → Trees
  json_trees p.no_items = no_items
  json_trees (p.item x xs) = item (json_tree x) (json_trees xs)

  pub json_entries : p.Entries → Entries
  json_entries p.no_entries = no_entries
  json_entries (p.entry key x es) = entry (json_tree key) (json_tree x) (json_entries es)

-- the node of a JSON text, without anchors and tags: each text in double quotes, all else plain
abbrev mutual
  pub json_node : p.Plain → n.Node
  json_node p.null = n.scalar (codes "null") style.Plain 0 None
  json_node (p.bool b) = n.scalar (spell_bool b) style.Plain 0 None
  json_node (p.int z) = n.scalar (signed_decimal z) style.Plain 0 None
  json_node (p.text s) = n.scalar s style.DoubleQuoted 0 None
  json_node (p.list items) = n.list 0 (json_nodes items)
  json_node (p.dict entries) = n.dict 0 (json_pairs entries)

  pub json_nodes : p.Plains → n.Nodes
  json_nodes p.no_items = n.no_nodes
  json_nodes (p.item x xs) = n.node (json_node x) (json_nodes xs)

  pub json_pairs : p.Entries → n.Pairs
  json_pairs p.no_entries = n.no_pairs
  json_pairs (p.entry key x es) = n.pair (json_node key) (json_node x) (json_pairs es)
