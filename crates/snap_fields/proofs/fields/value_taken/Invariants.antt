use Rattle.snap_fields.proofs.Prelude.{◌≡◌, length, pair_trees, last_in}
use Rattle.snap_fields.proofs.fields.value_taken.Given as goal

abbrev pub invariant-loop-pair : goal.invariant-loop-pair
invariant-loop-pair l = last_in l.name (pair_trees l.left.items) ≡ last_in l.name (pair_trees l.fn.pairs.items)

abbrev pub decreases-loop-pair : goal.decreases-loop-pair
decreases-loop-pair l = length l.left.items
