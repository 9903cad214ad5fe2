use Rattle.snap_content.proofs.Prelude.{◌≡◌, drop, item_list, item_trees, pair_list, pair_trees, field_list, field_trees, trees_cmp, pairs_cmp, fields_cmp}
use Rattle.snap_content.proofs.+order.Given as goal

-- what is left compares as the whole does
abbrev pub invariant-order::Items::compare-loop-item : goal.invariant-order::Items::compare-loop-item
invariant-order::Items::compare-loop-item l =
    trees_cmp (item_trees (drop l.item-index l.item-items)) (item_trees l.rest)
    ≡ trees_cmp (item_trees (item_list l.self)) (item_trees (item_list l.other))

abbrev pub invariant-order::Pairs::compare-loop-key : goal.invariant-order::Pairs::compare-loop-key
invariant-order::Pairs::compare-loop-key l =
    pairs_cmp (pair_trees (drop l.key-index l.key-items)) (pair_trees l.rest)
    ≡ pairs_cmp (pair_trees (pair_list l.self)) (pair_trees (pair_list l.other))

abbrev pub invariant-order::Fields::compare-loop-name : goal.invariant-order::Fields::compare-loop-name
invariant-order::Fields::compare-loop-name l =
    fields_cmp (field_trees (drop l.name-index l.name-items)) (field_trees l.rest)
    ≡ fields_cmp (field_trees (field_list l.self)) (field_trees (field_list l.other))
