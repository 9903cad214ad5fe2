use Rattle.snap_yaml.proofs.Prelude.{◌≡◌, take, map, value_of, array_list, pair_value, hash_list}
use Rattle.snap_yaml.proofs.+clone.Given as goal

abbrev pub invariant-clone::clone_array-loop-item : goal.invariant-clone::clone_array-loop-item
invariant-clone::clone_array-loop-item l = map value_of (array_list l.copy) ≡ map value_of (take l.item-index l.item-items)

abbrev pub invariant-clone::clone_hash-loop-key : goal.invariant-clone::clone_hash-loop-key
invariant-clone::clone_hash-loop-key l = map pair_value (hash_list l.copy) ≡ map pair_value (take l.key-index l.key-items)
