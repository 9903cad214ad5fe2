use Rattle.snap_fields.proofs.Prelude.{◌≡◌, length, pair_trees, last_filled_in}
use Rattle.snap_fields.proofs.fields.filled_named.Given as goal

abbrev pub invariant-loop-pair : goal.invariant-loop-pair
invariant-loop-pair l = last_filled_in l.name (pair_trees l.left) ≡ last_filled_in l.name (pair_trees l.fn.pairs)

abbrev pub decreases-loop-pair : goal.decreases-loop-pair
decreases-loop-pair l = length l.left
