use Rattle.snap_emit_values.proofs.Prelude.{◌+◌, ◌*◌, take, All, before_more, item_of, pair_of, place, item_shapes, entry_shapes, node_shape, node_pair, IsShapeWithin, IsPairWithin}
use Rattle.snap_emit_values.specs.Shape.{shapes_of, shape_pairs_of}
use Rattle.snap_emit_values.proofs.Sizes.{size, sizes, pair_sizes, both_sizes}
use Rattle.snap_emit_values.proofs.Walked.{IsAdded}
use Rattle.snap_emit_values.proofs.emit.+emit.Given as goal

abbrev pub decreases-emit : goal.decreases-emit
decreases-emit l = 8 * size (node_shape l.node)

abbrev pub decreases-emit_child : goal.decreases-emit_child
decreases-emit_child l = 8 * size (node_shape l.child) + 1

abbrev pub decreases-emit_item : goal.decreases-emit_item
decreases-emit_item l = 8 * size (node_shape l.item) + 2

abbrev pub decreases-emit_items : goal.decreases-emit_items
decreases-emit_items l = 8 * sizes (shapes_of (item_shapes l.items)) + 4

abbrev pub decreases-emit_key : goal.decreases-emit_key
decreases-emit_key l = 8 * size (node_shape l.key) + 1

abbrev pub decreases-emit_pair : goal.decreases-emit_pair
decreases-emit_pair l = 8 * both_sizes (node_pair l.pair) + 2

abbrev pub decreases-emit_entries : goal.decreases-emit_entries
decreases-emit_entries l = 8 * pair_sizes (shape_pairs_of (entry_shapes l.entries)) + 4

abbrev pub invariant-emit_items-loop-index : goal.invariant-emit_items-loop-index
invariant-emit_items-loop-index l = record {
  added : IsAdded l.column (item_of l.column (before_more (place l.blocks))) (item_shapes l.items) l.index l.initial.out l.out;
  within : All IsShapeWithin (take l.index (item_shapes l.items));
}

abbrev pub invariant-emit_entries-loop-index : goal.invariant-emit_entries-loop-index
invariant-emit_entries-loop-index l = record {
  added : IsAdded l.column (pair_of l.column (before_more (place l.blocks))) (entry_shapes l.entries) l.index l.initial.out l.out;
  within : All IsPairWithin (take l.index (entry_shapes l.entries));
}
