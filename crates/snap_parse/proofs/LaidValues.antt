-- The value of the node of a layout is the layout's.
use Rattle.snap_parse.proofs.Prelude.{◌≡◌, ℕ, ℤ, List, Bool, true, false, Option, None, Some, if◌then◌else◌, refl, ap, ◌∙◌, codes, bytes_eq, is_bad, paired, node_value, values_in, values_in_pairs, document_value}
use Rattle.snap_print.specs.Typed.{is_null_word}
use Rattle.snap_parse_events.specs.Nodes as n
use Rattle.snap_parse_laws.specs.Forms.{square, curly}
use Rattle.snap_parse_laws.specs.Layouts as w
use Rattle.snap_parse_events.specs.TokenTrees as tree
use Rattle.snap_yaml.specs.Typing.{prefixed_number, is_real_text, integer_of, integer_or, typed_number, typed_word, typed_yaml}
use Rattle.snap_yaml.specs.Value as v
use Rattle.snap_parse.specs.LaidEvents.{scalar_tree, leaf_tree, collection_tree, item_tree, items_trees, value_tree, level_tree, entry_trees, entries_trees, layout_tree}
use Rattle.snap_parse.specs.LaidValues.{scalar_value, leaf_value, collection_value, item_value, items_values, keyed_value, entry_values, entries_values, layout_value}
use Rattle.snap_parse.specs.TreeNodes.{tree_node, tree_nodes, tree_pairs}
use Rattle.snap_parse.proofs.PrintedValues.{pair-read, item-read, value-of}

-- a bare text is never a bad value

fine-or : (o : Option ℤ) (x : v.Value) → is_bad x ≡ false → is_bad (integer_or o x) ≡ false
fine-or None x h = h
fine-or (Some z) x h = refl

fine-if : (b : Bool) (x y : v.Value) → is_bad x ≡ false → is_bad y ≡ false → is_bad (if b then x else y) ≡ false
fine-if true x y h k = h
fine-if false x y h k = k

typed-fine : (u : List ℕ) → is_bad (typed_yaml u) ≡ false
typed-fine u =
    let number : v.Value = if is_real_text u then v.real u else v.string u in
    let falsehood : v.Value = if bytes_eq u (codes "false") then v.boolean false else typed_number u in
    let truth : v.Value = if bytes_eq u (codes "true") then v.boolean true else falsehood in
    fine-or (prefixed_number u) (typed_word u)
    (fine-if (is_null_word u) v.null truth refl
    (fine-if (bytes_eq u (codes "true")) (v.boolean true) falsehood refl
    (fine-if (bytes_eq u (codes "false")) (v.boolean false) (typed_number u) refl
    (fine-or (integer_of 10 u) number (fine-if (is_real_text u) (v.real u) (v.string u) refl refl)))))

record HasValue (node : n.Node) (value : v.Value) : Type 0 where
  is : node_value node ≡ Some value
  fine : is_bad value ≡ false

abbrev HaveValues : n.Nodes → v.Values → Type 0
HaveValues nodes values = v.values_of (values_in nodes) ≡ values

abbrev ArePaired : n.Pairs → v.ValuePairs → Type 0
ArePaired pairs values = v.pairs_of (paired (values_in_pairs pairs)) ≡ values

scalar-value : (s : w.Scalar) → HasValue (tree_node (scalar_tree s)) (scalar_value s)
scalar-value (w.bare u) = record { is = refl; fine = typed-fine u }
scalar-value (w.quote s) = record { is = refl; fine = refl }

leaf-value : (x : w.Leaf) → HasValue (tree_node (leaf_tree x)) (leaf_value x)
leaf-value (w.word s r) = scalar-value s
leaf-value (w.empty square r) = record { is = refl; fine = refl }
leaf-value (w.empty curly r) = record { is = refl; fine = refl }
leaf-value (w.block u count more) = record { is = refl; fine = refl }

more-values : (node : n.Node) (nodes : n.Nodes) (x : v.Value) (xs : v.Values) → HasValue node x → HaveValues nodes xs → HaveValues (n.node node nodes) (v.value x xs)
more-values node nodes x xs one rest = item-read (node_value node) x (values_in nodes) one.is ∙ ap (v.value x) rest

more-pairs : (k m : n.Node) (pairs : n.Pairs) (key x : v.Value) (rest : v.ValuePairs) → HasValue k key → HasValue m x → ArePaired pairs rest
    → ArePaired (n.pair k m pairs) (v.pair key x rest)
more-pairs k m pairs key x rest one two are =
    pair-read (node_value k) (node_value m) key x (values_in_pairs pairs) one.is two.is one.fine ∙ ap (v.pair key x) are

a-list : (nodes : n.Nodes) (values : v.Values) → HaveValues nodes values → HasValue (n.list 0 nodes) (v.array values)
a-list nodes values are = let f : v.Values → Option v.Value = λ u. Some (v.array u) in record { is = ap f are; fine = refl }

a-dict : (pairs : n.Pairs) (values : v.ValuePairs) → ArePaired pairs values → HasValue (n.dict 0 pairs) (v.hash values)
a-dict pairs values are = let f : v.ValuePairs → Option v.Value = λ u. Some (v.hash u) in record { is = ap f are; fine = refl }

mutual
  collection-value : (t : w.Collection) → HasValue (tree_node (collection_tree t)) (collection_value t)
  collection-value (w.list ts) = a-list (tree_nodes (items_trees ts)) (items_values ts) (items-values ts)
  collection-value (w.dict es) = a-dict (tree_pairs (entries_trees es)) (entries_values es) (entries-values es)

  item-value : (t : w.Item) → HasValue (tree_node (item_tree t)) (item_value t)
  item-value (w.piece k x) = leaf-value x
  item-value (w.beside k t) = collection-value t
  item-value (w.below g k t) = collection-value t

  items-values : (ts : w.Items) → HaveValues (tree_nodes (items_trees ts)) (items_values ts)
  items-values (w.last t) = more-values (tree_node (item_tree t)) n.no_nodes (item_value t) v.no_values (item-value t) refl
  items-values (w.item t ts) = more-values (tree_node (item_tree t)) (tree_nodes (items_trees ts)) (item_value t) (items_values ts) (item-value t) (items-values ts)

  keyed-value : (x : w.Value) → HasValue (tree_node (value_tree x)) (keyed_value x)
  keyed-value (w.piece_of k x) = leaf-value x
  keyed-value (w.below_key g k t) = collection-value t
  keyed-value (w.level g ts) = level-value ts

  level-value : (ts : w.Items) → HasValue (tree_node (level_tree ts)) (v.array (items_values ts))
  level-value (w.last t) =
      a-list (tree_nodes (items_trees (w.last t))) (items_values (w.last t)) (more-values (tree_node (item_tree t)) n.no_nodes (item_value t) v.no_values (item-value t) refl)
  level-value (w.item t ts) =
      a-list (tree_nodes (items_trees (w.item t ts))) (items_values (w.item t ts))
      (more-values (tree_node (item_tree t)) (tree_nodes (items_trees ts)) (item_value t) (items_values ts) (item-value t) (items-values ts))

  entry-values : (e : w.Entry) (fs : tree.Entries) (rest : v.ValuePairs) → ArePaired (tree_pairs fs) rest → ArePaired (tree_pairs (entry_trees e fs)) (entry_values e rest)
  entry-values (w.simple s x) fs rest are =
      more-pairs (tree_node (scalar_tree s)) (tree_node (value_tree x)) (tree_pairs fs) (scalar_value s) (keyed_value x) rest (scalar-value s) (keyed-value x) are
  entry-values (w.complex q x) fs rest are =
      more-pairs (tree_node (item_tree q)) (tree_node (item_tree x)) (tree_pairs fs) (item_value q) (item_value x) rest (item-value q) (item-value x) are

  entries-values : (es : w.Entries) → ArePaired (tree_pairs (entries_trees es)) (entries_values es)
  entries-values (w.only e) = entry-values e tree.no_entries v.no_pairs refl
  entries-values (w.pair e es) = entry-values e (entries_trees es) (entries_values es) (entries-values es)

layout-has-value : (t : w.Layout) → HasValue (tree_node (layout_tree t)) (layout_value t)
layout-has-value (w.leaf x) = leaf-value x
layout-has-value (w.collection t) = collection-value t

pub laid-value : (t : w.Layout) → document_value (tree_node (layout_tree t)) ≡ layout_value t
laid-value t = value-of (node_value (tree_node (layout_tree t))) (layout_value t) (layout-has-value t).is
