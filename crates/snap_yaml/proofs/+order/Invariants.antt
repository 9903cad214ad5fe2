use Rattle.snap_yaml.proofs.Prelude.{◌≡◌, drop, array_list, array_values, hash_list, hash_values, values_cmp, pairs_cmp}
use Rattle.snap_yaml.proofs.+order.Given as goal

-- what is left compares as the whole does
abbrev pub invariant-order::compare_arrays-loop-item : goal.invariant-order::compare_arrays-loop-item
invariant-order::compare_arrays-loop-item l =
    values_cmp (array_values (drop l.item-index l.item-items)) (array_values l.rest)
    ≡ values_cmp (array_values (array_list l.array)) (array_values (array_list l.other))

abbrev pub invariant-order::compare_hashes-loop-key : goal.invariant-order::compare_hashes-loop-key
invariant-order::compare_hashes-loop-key l =
    pairs_cmp (hash_values (drop l.key-index l.key-items)) (hash_values l.rest)
    ≡ pairs_cmp (hash_values (hash_list l.hash)) (hash_values (hash_list l.other))
