-- The tree of tokens and the node of a plain tree, as it is printed.
use Rattle.std.specs.Prelude.{ℕ, List, Option, None, Some, codes, if◌then◌else◌}
use Rattle.std.specs.Fmt.{signed_decimal}
use Rattle.snap_content.specs.Plain as p
use Rattle.snap_content.specs.Quotes.{needs_quotes}
use Rattle.snap_print.specs.Spell.{spell_bool}
use Rattle.snap_print.specs.Blocks.{Blocks, before_more, as_block}
use Rattle.snap_print.specs.Lines.{before_items, before_entries}
use Rattle.snap_scan_tokens.specs.declared.token.TScalarStyle.{TScalarStyle}
use Rattle.snap_scan_tokens.specs.declared.token.TScalarStyle.TheVariants as style
use Rattle.snap_parse_events.specs.Nodes as n
use Rattle.snap_parse_events.specs.TokenTrees.{Tree, scalar, block_list, block_dict, flow_list, flow_dict, Trees, no_items, item, Entries, no_entries, entry}

-- how a text is written
abbrev pub style_of : List ℕ → TScalarStyle
style_of s = if needs_quotes s then style.DoubleQuoted else style.Plain

-- an item or a value is a literal scalar where it is written as a block
abbrev pub child_tree : Option (List ℕ) → Tree → Tree
child_tree None t = t
child_tree (Some s) t = scalar style.Literal s

abbrev pub child_node : Option (List ℕ) → n.Node → n.Node
child_node None t = t
child_node (Some s) t = n.scalar s style.Literal 0 None

-- in blocks, and an empty list or dict in flow
abbrev mutual
  pub tree_of : Blocks → p.Plain → Tree
  tree_of w p.null = scalar style.Plain (codes "~")
  tree_of w (p.bool b) = scalar style.Plain (spell_bool b)
  tree_of w (p.int z) = scalar style.Plain (signed_decimal z)
  tree_of w (p.text s) = scalar (style_of s) s
  tree_of w (p.list p.no_items) = flow_list no_items
  tree_of w (p.list (p.item x xs)) = block_list (item (child_tree (as_block (before_items w xs) x) (tree_of (before_items w xs) x)) (trees_of w xs))
  tree_of w (p.dict p.no_entries) = flow_dict no_entries
  tree_of w (p.dict (p.entry k v es)) =
      block_dict (entry (tree_of (before_more w) k) (child_tree (as_block (before_entries w es) v) (tree_of (before_entries w es) v)) (entries_of w es))

  pub trees_of : Blocks → p.Plains → Trees
  trees_of w p.no_items = no_items
  trees_of w (p.item x xs) = item (child_tree (as_block (before_items w xs) x) (tree_of (before_items w xs) x)) (trees_of w xs)

  pub entries_of : Blocks → p.Entries → Entries
  entries_of w p.no_entries = no_entries
  entries_of w (p.entry k v es) =
      entry (tree_of (before_more w) k) (child_tree (as_block (before_entries w es) v) (tree_of (before_entries w es) v)) (entries_of w es)

-- the node of a plain tree, without anchors and tags: a text in double quotes where it needs them, each other scalar plain
abbrev mutual
  pub node_of : Blocks → p.Plain → n.Node
  node_of w p.null = n.scalar (codes "~") style.Plain 0 None
  node_of w (p.bool b) = n.scalar (spell_bool b) style.Plain 0 None
  node_of w (p.int z) = n.scalar (signed_decimal z) style.Plain 0 None
  node_of w (p.text s) = n.scalar s (style_of s) 0 None
  node_of w (p.list xs) = n.list 0 (nodes_of w xs)
  node_of w (p.dict es) = n.dict 0 (pairs_of w es)

  pub nodes_of : Blocks → p.Plains → n.Nodes
  nodes_of w p.no_items = n.no_nodes
  nodes_of w (p.item x xs) = n.node (child_node (as_block (before_items w xs) x) (node_of (before_items w xs) x)) (nodes_of w xs)

  pub pairs_of : Blocks → p.Entries → n.Pairs
  pairs_of w p.no_entries = n.no_pairs
  pairs_of w (p.entry k v es) = n.pair (node_of (before_more w) k) (child_node (as_block (before_entries w es) v) (node_of (before_entries w es) v)) (pairs_of w es)
