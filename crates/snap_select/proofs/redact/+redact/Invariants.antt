use Rattle.snap_select.proofs.Prelude.{◌≡◌, ◌+◌, ◌*◌, map, codes, drop, length, count, count_items, count_pairs, count_fields, tree, item_list, item_trees, pair_list, pair_trees, field_list, field_trees, step_of, into_field, parts_of, false, opens}
use Rattle.snap_select.proofs.RedactedLists.{ItemsSoFar, PairsSoFar, FieldsSoFar}
use Rattle.snap_select.proofs.redact.+redact.Given as goal

-- the nodes below the place where each function stands
abbrev pub decreases-redact_at : goal.decreases-redact_at
decreases-redact_at g l = 8 * count (tree l.value.now) + 1

abbrev pub decreases-redact_behind : goal.decreases-redact_behind
decreases-redact_behind g l = 8 * count (tree l.value.now) + 2

abbrev pub decreases-redact_inside : goal.decreases-redact_inside
decreases-redact_inside g l = 8 * count (tree l.value)

abbrev pub decreases-redact_box : goal.decreases-redact_box
decreases-redact_box g l = 8 * count (tree l.inner.value) + 2

abbrev pub decreases-redact_list : goal.decreases-redact_list
decreases-redact_list g l = 8 * count_items (item_trees (item_list l.list)) + 5

abbrev pub decreases-redact_items : goal.decreases-redact_items
decreases-redact_items g l = 8 * count_items (item_trees l.items.now) + 4

abbrev pub decreases-redact_item : goal.decreases-redact_item
decreases-redact_item g l = 8 * count (tree l.item.now) + 3

abbrev pub decreases-redact_map : goal.decreases-redact_map
decreases-redact_map g l = 8 * count_pairs (pair_trees (pair_list l.list)) + 7

abbrev pub decreases-redact_pairs : goal.decreases-redact_pairs
decreases-redact_pairs g l = 8 * count_pairs (pair_trees l.pairs.now) + 6

abbrev pub decreases-redact_pair : goal.decreases-redact_pair
decreases-redact_pair g l = 8 * (count (tree l.pair.now.0) + count (tree l.pair.now.1)) + 5

abbrev pub decreases-redact_value : goal.decreases-redact_value
decreases-redact_value g l = 8 * count (tree l.pair.now.1) + 3

abbrev pub decreases-redact_named : goal.decreases-redact_named
decreases-redact_named g l = 8 * count (tree l.value.now) + 3

abbrev pub decreases-redact_struct : goal.decreases-redact_struct
decreases-redact_struct g l = 8 * count_fields (field_trees (field_list l.list)) + 6

abbrev pub decreases-redact_fields : goal.decreases-redact_fields
decreases-redact_fields g l = 8 * count_fields (field_trees l.fields.now) + 5

abbrev pub decreases-redact_field : goal.decreases-redact_field
decreases-redact_field g l = 8 * count (tree l.field.now.1) + 4

-- the path is as it was, what is left is as it was, and what comes of it, after what is done, comes of all
abbrev pub invariant-redact_items-loop-index : goal.invariant-redact_items-loop-index
invariant-redact_items-loop-index g l = record {
  path : l.path.items ≡ l.fn.path.items;
  left : drop l.index l.items ≡ drop l.index l.fn.items;
  same_length : length l.items ≡ length l.fn.items;
  so_far : ItemsSoFar (parts_of l.selector) (g.P.Put.puts l.put) (map step_of l.fn.path.items) l.fn.items l.index l.items;
}

abbrev pub invariant-redact_pairs-loop-index : goal.invariant-redact_pairs-loop-index
invariant-redact_pairs-loop-index g l = record {
  path : l.path.items ≡ l.fn.path.items;
  name : l.name ≡ codes "$key";
  keys : l.keys ≡ false → opens (parts_of l.selector) (length l.fn.path.items) (into_field (codes "$key")) ≡ false;
  left : drop l.index l.pairs ≡ drop l.index l.fn.pairs;
  same_length : length l.pairs ≡ length l.fn.pairs;
  so_far : PairsSoFar (parts_of l.selector) (g.P.Put.puts l.put) (map step_of l.fn.path.items) l.fn.pairs l.index l.pairs;
}

abbrev pub invariant-redact_fields-loop-index : goal.invariant-redact_fields-loop-index
invariant-redact_fields-loop-index g l = record {
  path : l.path.items ≡ l.fn.path.items;
  left : drop l.index l.fields ≡ drop l.index l.fn.fields;
  same_length : length l.fields ≡ length l.fn.fields;
  so_far : FieldsSoFar (parts_of l.selector) (g.P.Put.puts l.put) (map step_of l.fn.path.items) l.fn.fields l.index l.fields;
}
