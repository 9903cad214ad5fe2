use Rattle.snap_front.proofs.Prelude.{◌≡◌, drop, chars, pair_trees, value_in}
use Rattle.snap_front.proofs.trees.value_in.Given as goal

-- what is left holds the value that the whole holds
abbrev pub invariant-loop-pair : goal.invariant-loop-pair
invariant-loop-pair l = value_in (chars l.name) (pair_trees (drop l.pair-index l.pairs)) ≡ value_in (chars l.name) (pair_trees l.pairs)
