-- No alias stands in a printed tree, a JSON text or a layout.
use Rattle.snap_parse.proofs.Prelude.{◌≡◌, false, List, [], ◌∷◌, refl, Option, Some, None, Event, has_alias, node_onto, nodes_onto, pairs_onto, stream_events, node_of, nodes_of, pairs_of, child_node, json_node, json_nodes, json_pairs, Blocks, before_more, as_block, before_items, before_entries, Node, ℕ}
use Rattle.snap_content.specs.Plain as p
use Rattle.snap_parse_events.specs.declared.event.Event.TheVariants as e
use Rattle.snap_parse_events.specs.TokenTrees.{Tree, scalar, block_list, indentless_list, block_dict, flow_list, flow_dict, Trees, no_items, item, Entries, no_entries, entry}
use Rattle.snap_parse.specs.TreeNodes.{tree_node, tree_nodes, tree_pairs}

abbrev AreFree : List Event → Type 0
AreFree es = has_alias es ≡ false

child-free : (s : Option (List ℕ)) (n : Node) (es : List Event) → AreFree es → AreFree (node_onto n es) → AreFree (node_onto (child_node s n) es)
child-free None n es h k = k
child-free (Some s) n es h k = h

mutual
  node-free : (w : Blocks) (x : p.Plain) (es : List Event) → AreFree es → AreFree (node_onto (node_of w x) es)
  node-free w p.null es h = h
  node-free w (p.bool b) es h = h
  node-free w (p.int z) es h = h
  node-free w (p.text s) es h = h
  node-free w (p.list xs) es h = nodes-free w xs (e.SequenceEnd ∷ es) h
  node-free w (p.dict fs) es h = pairs-free w fs (e.MappingEnd ∷ es) h

  nodes-free : (w : Blocks) (xs : p.Plains) (es : List Event) → AreFree es → AreFree (nodes_onto (nodes_of w xs) es)
  nodes-free w p.no_items es h = h
  nodes-free w (p.item x xs) es h =
      let u : Blocks = before_items w xs in
      let rest : List Event = nodes_onto (nodes_of w xs) es in
      let more : AreFree rest = nodes-free w xs es h in
      child-free (as_block u x) (node_of u x) rest more (node-free u x rest more)

  pairs-free : (w : Blocks) (fs : p.Entries) (es : List Event) → AreFree es → AreFree (pairs_onto (pairs_of w fs) es)
  pairs-free w p.no_entries es h = h
  pairs-free w (p.entry k x fs) es h =
      let u : Blocks = before_entries w fs in
      let rest : List Event = pairs_onto (pairs_of w fs) es in
      let more : AreFree rest = pairs-free w fs es h in
      let value : List Event = node_onto (child_node (as_block u x) (node_of u x)) rest in
      node-free (before_more w) k value (child-free (as_block u x) (node_of u x) rest more (node-free u x rest more))

mutual
  json-node-free : (x : p.Plain) (es : List Event) → AreFree es → AreFree (node_onto (json_node x) es)
  json-node-free p.null es h = h
  json-node-free (p.bool b) es h = h
  json-node-free (p.int z) es h = h
  json-node-free (p.text s) es h = h
  json-node-free (p.list xs) es h = json-nodes-free xs (e.SequenceEnd ∷ es) h
  json-node-free (p.dict fs) es h = json-pairs-free fs (e.MappingEnd ∷ es) h

  json-nodes-free : (xs : p.Plains) (es : List Event) → AreFree es → AreFree (nodes_onto (json_nodes xs) es)
  json-nodes-free p.no_items es h = h
  json-nodes-free (p.item x xs) es h = json-node-free x (nodes_onto (json_nodes xs) es) (json-nodes-free xs es h)

  json-pairs-free : (fs : p.Entries) (es : List Event) → AreFree es → AreFree (pairs_onto (json_pairs fs) es)
  json-pairs-free p.no_entries es h = h
  json-pairs-free (p.entry k x fs) es h =
      let rest : List Event = pairs_onto (json_pairs fs) es in
      json-node-free k (node_onto (json_node x) rest) (json-node-free x rest (json-pairs-free fs es h))

mutual
  tree-node-free : (t : Tree) (es : List Event) → AreFree es → AreFree (node_onto (tree_node t) es)
  tree-node-free (scalar style text) es h = h
  tree-node-free (block_list ts) es h = tree-nodes-free ts (e.SequenceEnd ∷ es) h
  tree-node-free (indentless_list t ts) es h =
      tree-node-free t (nodes_onto (tree_nodes ts) (e.SequenceEnd ∷ es)) (tree-nodes-free ts (e.SequenceEnd ∷ es) h)
  tree-node-free (block_dict fs) es h = tree-pairs-free fs (e.MappingEnd ∷ es) h
  tree-node-free (flow_list ts) es h = tree-nodes-free ts (e.SequenceEnd ∷ es) h
  tree-node-free (flow_dict fs) es h = tree-pairs-free fs (e.MappingEnd ∷ es) h

  tree-nodes-free : (ts : Trees) (es : List Event) → AreFree es → AreFree (nodes_onto (tree_nodes ts) es)
  tree-nodes-free no_items es h = h
  tree-nodes-free (item t ts) es h = tree-node-free t (nodes_onto (tree_nodes ts) es) (tree-nodes-free ts es h)

  tree-pairs-free : (fs : Entries) (es : List Event) → AreFree es → AreFree (pairs_onto (tree_pairs fs) es)
  tree-pairs-free no_entries es h = h
  tree-pairs-free (entry t u fs) es h =
      let rest : List Event = pairs_onto (tree_pairs fs) es in
      tree-node-free t (node_onto (tree_node u) rest) (tree-node-free u rest (tree-pairs-free fs es h))

pub printed-free : (w : Blocks) (x : p.Plain) → has_alias (stream_events (node_of w x ∷ [])) ≡ false
printed-free w x = node-free w x (e.DocumentEnd ∷ e.StreamEnd ∷ []) refl

pub json-free : (x : p.Plain) → has_alias (stream_events (json_node x ∷ [])) ≡ false
json-free x = json-node-free x (e.DocumentEnd ∷ e.StreamEnd ∷ []) refl

pub tree-free : (t : Tree) → has_alias (stream_events (tree_node t ∷ [])) ≡ false
tree-free t = tree-node-free t (e.DocumentEnd ∷ e.StreamEnd ∷ []) refl
