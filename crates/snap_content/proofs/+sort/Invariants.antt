use Rattle.snap_content.proofs.Prelude.{◌≡◌, ◌+◌, ◌*◌, List, ◌++◌, map, take, drop, length, tree, item_list, item_trees, pair_tree, pair_list, pair_trees, field_list, field_trees, Entry, InKeyOrder, AsBeforeOrInKeyOrder, ItemsRearranged, PairsRearranged, FieldsRearranged, count, count_items, count_pairs, count_fields}
use Rattle.snap_content.specs.Tree as t
use Rattle.snap_content.proofs.Joined.{joined, joined_fields}
use Rattle.snap_content.proofs.+sort.Given as goal

-- the nodes below the place where each function stands
abbrev pub decreases-content::Content::sort_maps : goal.decreases-content::Content::sort_maps
decreases-content::Content::sort_maps l = 8 * count (tree l.self.now) + 1

abbrev pub decreases-sorting::sort_inside : goal.decreases-sorting::sort_inside
decreases-sorting::sort_inside l = 8 * count (tree l.node)

abbrev pub decreases-sorting::sort_box : goal.decreases-sorting::sort_box
decreases-sorting::sort_box l = 8 * count (tree l.inner.value) + 2

abbrev pub decreases-sorting::sort_list : goal.decreases-sorting::sort_list
decreases-sorting::sort_list l = 8 * count_items (item_trees (item_list l.list)) + 4

abbrev pub decreases-sorting::sort_items : goal.decreases-sorting::sort_items
decreases-sorting::sort_items l = 8 * count_items (item_trees l.items.items) + 3

abbrev pub decreases-sorting::sort_map : goal.decreases-sorting::sort_map
decreases-sorting::sort_map l = 8 * count_pairs (pair_trees (pair_list l.list)) + 6

abbrev pub decreases-sorting::sort_pairs : goal.decreases-sorting::sort_pairs
decreases-sorting::sort_pairs l = 8 * count_pairs (pair_trees l.pairs.items) + 5

abbrev pub decreases-sorting::sort_inside_pairs : goal.decreases-sorting::sort_inside_pairs
decreases-sorting::sort_inside_pairs l = 8 * count_pairs (pair_trees l.pairs.items) + 4

abbrev pub decreases-sorting::sort_pair : goal.decreases-sorting::sort_pair
decreases-sorting::sort_pair l = 8 * (count (tree l.pair.now.0) + count (tree l.pair.now.1)) + 2

abbrev pub decreases-sorting::sort_struct : goal.decreases-sorting::sort_struct
decreases-sorting::sort_struct l = 8 * count_fields (field_trees (field_list l.list)) + 4

abbrev pub decreases-sorting::sort_fields : goal.decreases-sorting::sort_fields
decreases-sorting::sort_fields l = 8 * count_fields (field_trees l.fields.items) + 3

abbrev pub decreases-sorting::sort_field : goal.decreases-sorting::sort_field
decreases-sorting::sort_field l = 8 * count (tree l.field.now.1) + 2

-- the elements that are left are as they were; and what comes of them, after what is done, comes of all
abbrev pub invariant-sorting::sort_items-loop-index : goal.invariant-sorting::sort_items-loop-index
invariant-sorting::sort_items-loop-index l = record {
  left : drop l.index l.items.items ≡ drop l.index l.fn.items.items;
  same_length : length l.items.items ≡ length l.fn.items.items;
  sorted : (rest : t.Trees) → ItemsRearranged InKeyOrder (item_trees (drop l.index l.items.items)) rest
      → ItemsRearranged InKeyOrder (item_trees l.fn.items.items) (joined (take l.index l.items.items) rest);
  partly : (rest : t.Trees) → ItemsRearranged AsBeforeOrInKeyOrder (item_trees (drop l.index l.items.items)) rest
      → ItemsRearranged AsBeforeOrInKeyOrder (item_trees l.fn.items.items) (joined (take l.index l.items.items) rest);
}

abbrev pub invariant-sorting::sort_inside_pairs-loop-index : goal.invariant-sorting::sort_inside_pairs-loop-index
invariant-sorting::sort_inside_pairs-loop-index l = record {
  left : drop l.index l.pairs.items ≡ drop l.index l.fn.pairs.items;
  same_length : length l.pairs.items ≡ length l.fn.pairs.items;
  sorted : (rest : List Entry) → PairsRearranged InKeyOrder (pair_trees (drop l.index l.pairs.items)) rest
      → PairsRearranged InKeyOrder (pair_trees l.fn.pairs.items) (map pair_tree (take l.index l.pairs.items) ++ rest);
  partly : (rest : List Entry) → PairsRearranged AsBeforeOrInKeyOrder (pair_trees (drop l.index l.pairs.items)) rest
      → PairsRearranged AsBeforeOrInKeyOrder (pair_trees l.fn.pairs.items) (map pair_tree (take l.index l.pairs.items) ++ rest);
}

abbrev pub invariant-sorting::sort_fields-loop-index : goal.invariant-sorting::sort_fields-loop-index
invariant-sorting::sort_fields-loop-index l = record {
  left : drop l.index l.fields.items ≡ drop l.index l.fn.fields.items;
  same_length : length l.fields.items ≡ length l.fn.fields.items;
  sorted : (rest : t.TreeFields) → FieldsRearranged InKeyOrder (field_trees (drop l.index l.fields.items)) rest
      → FieldsRearranged InKeyOrder (field_trees l.fn.fields.items) (joined_fields (take l.index l.fields.items) rest);
  partly : (rest : t.TreeFields) → FieldsRearranged AsBeforeOrInKeyOrder (field_trees (drop l.index l.fields.items)) rest
      → FieldsRearranged AsBeforeOrInKeyOrder (field_trees l.fn.fields.items) (joined_fields (take l.index l.fields.items) rest);
}
