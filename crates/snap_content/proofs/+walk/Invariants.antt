use Rattle.snap_content.proofs.Prelude.{◌≡◌, ◌≤◌, ◌+◌, ◌*◌, take, drop, length, tree, item_list, item_trees, pair_list, pair_trees, field_list, field_trees, count, count_items, count_pairs, count_fields, Calls, ItemsWalked, PairsWalked, FieldsWalked}
use Rattle.snap_content.specs.Tree as t
use Rattle.snap_content.proofs.Joined.{joined, joined_pairs, joined_fields}
use Rattle.snap_content.proofs.+walk.Given as goal

-- the nodes below the place where each function stands
abbrev pub decreases-content::Content::walk : goal.decreases-content::Content::walk
decreases-content::Content::walk g l = 8 * count (tree l.self.now) + 1

abbrev pub decreases-walking::walk_inside : goal.decreases-walking::walk_inside
decreases-walking::walk_inside g l = 8 * count (tree l.node)

abbrev pub decreases-walking::walk_box : goal.decreases-walking::walk_box
decreases-walking::walk_box g l = 8 * count (tree l.inner.value) + 2

abbrev pub decreases-walking::walk_list : goal.decreases-walking::walk_list
decreases-walking::walk_list g l = 8 * count_items (item_trees (item_list l.list)) + 4

abbrev pub decreases-walking::walk_items : goal.decreases-walking::walk_items
decreases-walking::walk_items g l = 8 * count_items (item_trees l.items.items) + 3

abbrev pub decreases-walking::walk_map : goal.decreases-walking::walk_map
decreases-walking::walk_map g l = 8 * count_pairs (pair_trees (pair_list l.list)) + 4

abbrev pub decreases-walking::walk_pairs : goal.decreases-walking::walk_pairs
decreases-walking::walk_pairs g l = 8 * count_pairs (pair_trees l.items.items) + 3

abbrev pub decreases-walking::walk_struct : goal.decreases-walking::walk_struct
decreases-walking::walk_struct g l = 8 * count_fields (field_trees (field_list l.list)) + 4

abbrev pub decreases-walking::walk_fields : goal.decreases-walking::walk_fields
decreases-walking::walk_fields g l = 8 * count_fields (field_trees l.items.items) + 3

abbrev pub decreases-walking::walk_pair : goal.decreases-walking::walk_pair
decreases-walking::walk_pair g l = 8 * (count (tree l.pair.now.0) + count (tree l.pair.now.1)) + 2

abbrev pub decreases-walking::walk_field : goal.decreases-walking::walk_field
decreases-walking::walk_field g l = 8 * count (tree l.field.now.1) + 2

abbrev pub invariant-walking::walk_items-loop-index : goal.invariant-walking::walk_items-loop-index
invariant-walking::walk_items-loop-index g l = record {
  callable : goal.F-IsAlwaysCallable g l.visit;
  shrinks : count_items (item_trees l.items.items) ≤ count_items (item_trees l.fn.items.items);
  same_length : length l.items.items ≡ length l.fn.items.items;
  so_far : (rest : t.Trees) (h : _) → ItemsWalked (Calls g.F.FnMut) l.visit (item_trees (drop l.index l.items.items)) rest h
      → ItemsWalked (Calls g.F.FnMut) l.fn.visit (item_trees l.fn.items.items) (joined (take l.index l.items.items) rest) h;
}

abbrev pub invariant-walking::walk_pairs-loop-index : goal.invariant-walking::walk_pairs-loop-index
invariant-walking::walk_pairs-loop-index g l = record {
  callable : goal.F-IsAlwaysCallable g l.visit;
  shrinks : count_pairs (pair_trees l.items.items) ≤ count_pairs (pair_trees l.fn.items.items);
  same_length : length l.items.items ≡ length l.fn.items.items;
  so_far : (rest : t.TreePairs) (h : _) → PairsWalked (Calls g.F.FnMut) l.visit (pair_trees (drop l.index l.items.items)) rest h
      → PairsWalked (Calls g.F.FnMut) l.fn.visit (pair_trees l.fn.items.items) (joined_pairs (take l.index l.items.items) rest) h;
}

abbrev pub invariant-walking::walk_fields-loop-index : goal.invariant-walking::walk_fields-loop-index
invariant-walking::walk_fields-loop-index g l = record {
  callable : goal.F-IsAlwaysCallable g l.visit;
  shrinks : count_fields (field_trees l.items.items) ≤ count_fields (field_trees l.fn.items.items);
  same_length : length l.items.items ≡ length l.fn.items.items;
  so_far : (rest : t.TreeFields) (h : _) → FieldsWalked (Calls g.F.FnMut) l.visit (field_trees (drop l.index l.items.items)) rest h
      → FieldsWalked (Calls g.F.FnMut) l.fn.visit (field_trees l.fn.items.items) (joined_fields (take l.index l.items.items) rest) h;
}
