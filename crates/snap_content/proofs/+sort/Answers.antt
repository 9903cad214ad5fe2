use Rattle.snap_content.proofs.Prelude.{rules, ◌≡◌, ◌≤◌, ◌+◌, true, ◌∙◌, map, arith, refl, inl, length-set, InKeyOrder, AsBeforeOrInKeyOrder, tree, item_trees, pair_tree, pair_trees, field_trees, count, count_items, count_pairs, count_fields, is_leaf, the_lemmas}
use Rattle.snap_content.proofs.Joined.{left_turn, count_left, count_pairs_left, count_fields_left}
use Rattle.snap_content.proofs.Rearrangements.{items_turn, items_end, items_stop, pairs_turn, pairs_end, pairs_stop, fields_turn, fields_end, fields_stop, map_moved, unmoved, leaf_stays}
use Rattle.snap_content.proofs.+sort.Goals as goal

pub sorting::sort_items-sort_maps-requires : goal.sorting::sort_items-sort_maps-requires
sorting::sort_items-sort_maps-requires t c =
    let k : count (tree c.index_mut.result.now) ≤ count_items (item_trees c.args.items.items)
    = count_left _ c.loop-index.items.items c.loop-index.index _ c.loop-index.invariant.left (omega arith) c.index_mut.ensures.value in search rules

pub sorting::sort_items-returns-in-Err-clause-partly : goal.sorting::sort_items-returns-in-Err-clause-partly
sorting::sort_items-returns-in-Err-clause-partly t c =
    items_stop AsBeforeOrInKeyOrder (λ es. inl refl) _ c.loop-index.items.items c.loop-index.index _ c.sort_maps.new.self c.loop-index.invariant.partly (omega arith)
    c.index_mut.ensures.value c.sort_maps.ensures.partly

pub sorting::sort_items-loop-index-preserved : goal.sorting::sort_items-loop-index-preserved
sorting::sort_items-loop-index-preserved t c = record {
  left = left_turn _ c.loop-index.items.items c.loop-index.index c.sort_maps.new.self c.loop-index.invariant.left;
  same_length = length-set c.loop-index.items.items c.loop-index.index c.sort_maps.new.self ∙ c.loop-index.invariant.same_length;
  sorted = items_turn InKeyOrder _ c.loop-index.items.items c.loop-index.index _ c.sort_maps.new.self c.loop-index.invariant.sorted (omega arith)
      c.index_mut.ensures.value c.in-Ok.ensures.ok;
  partly = items_turn AsBeforeOrInKeyOrder _ c.loop-index.items.items c.loop-index.index _ c.sort_maps.new.self c.loop-index.invariant.partly (omega arith)
      c.index_mut.ensures.value c.sort_maps.ensures.partly;
}

pub sorting::sort_items-returns-clause-ok : goal.sorting::sort_items-returns-clause-ok
sorting::sort_items-returns-clause-ok t c = items_end InKeyOrder _ _ c.loop-index.index c.loop-index.invariant.sorted (omega arith)

pub sorting::sort_items-returns-clause-partly : goal.sorting::sort_items-returns-clause-partly
sorting::sort_items-returns-clause-partly t c = items_end AsBeforeOrInKeyOrder _ _ c.loop-index.index c.loop-index.invariant.partly (omega arith)

pub sorting::sort_map-returns-clause-partly : goal.sorting::sort_map-returns-clause-partly
sorting::sort_map-returns-clause-partly t c = map_moved AsBeforeOrInKeyOrder _ _ _ _ c.into_vec.ensures c.from_vec.ensures c.sort_pairs-pairs.ensures.partly

pub sorting::sort_pairs-returns-in-Err-clause-partly : goal.sorting::sort_pairs-returns-in-Err-clause-partly
sorting::sort_pairs-returns-in-Err-clause-partly t c =
    let inside = map pair_tree c.sort_inside_pairs-pairs.result.0.items in (inside, inside, refl, c.sort_inside_pairs-pairs.ensures.partly, inl refl)

pub sorting::sort_inside_pairs-sort_pair-requires : goal.sorting::sort_inside_pairs-sort_pair-requires
sorting::sort_inside_pairs-sort_pair-requires t c =
    let k : count (tree c.index_mut.result.now.0) + count (tree c.index_mut.result.now.1) ≤ count_pairs (pair_trees c.args.pairs.items)
    = count_pairs_left _ c.loop-index.pairs.items c.loop-index.index _ c.loop-index.invariant.left (omega arith) c.index_mut.ensures.value in search rules

pub sorting::sort_inside_pairs-returns-in-Err-clause-partly : goal.sorting::sort_inside_pairs-returns-in-Err-clause-partly
sorting::sort_inside_pairs-returns-in-Err-clause-partly t c =
    pairs_stop AsBeforeOrInKeyOrder (λ es. inl refl) _ c.loop-index.pairs.items c.loop-index.index _ c.sort_pair.new.pair c.loop-index.invariant.partly (omega arith)
    c.index_mut.ensures.value c.sort_pair.ensures.key_partly c.sort_pair.ensures.value_partly

pub sorting::sort_inside_pairs-loop-index-preserved : goal.sorting::sort_inside_pairs-loop-index-preserved
sorting::sort_inside_pairs-loop-index-preserved t c = record {
  left = left_turn _ c.loop-index.pairs.items c.loop-index.index c.sort_pair.new.pair c.loop-index.invariant.left;
  same_length = length-set c.loop-index.pairs.items c.loop-index.index c.sort_pair.new.pair ∙ c.loop-index.invariant.same_length;
  sorted = pairs_turn InKeyOrder _ c.loop-index.pairs.items c.loop-index.index _ c.sort_pair.new.pair c.loop-index.invariant.sorted (omega arith)
      c.index_mut.ensures.value c.in-Ok.ensures.key c.in-Ok.ensures.value;
  partly = pairs_turn AsBeforeOrInKeyOrder _ c.loop-index.pairs.items c.loop-index.index _ c.sort_pair.new.pair c.loop-index.invariant.partly (omega arith)
      c.index_mut.ensures.value c.sort_pair.ensures.key_partly c.sort_pair.ensures.value_partly;
}

pub sorting::sort_inside_pairs-returns-clause-ok : goal.sorting::sort_inside_pairs-returns-clause-ok
sorting::sort_inside_pairs-returns-clause-ok t c = pairs_end InKeyOrder _ _ c.loop-index.index c.loop-index.invariant.sorted (omega arith)

pub sorting::sort_inside_pairs-returns-clause-partly : goal.sorting::sort_inside_pairs-returns-clause-partly
sorting::sort_inside_pairs-returns-clause-partly t c = pairs_end AsBeforeOrInKeyOrder _ _ c.loop-index.index c.loop-index.invariant.partly (omega arith)

pub sorting::sort_pair-returns-in_err-sort_maps-clause-value_partly : goal.sorting::sort_pair-returns-in_err-sort_maps-clause-value_partly
sorting::sort_pair-returns-in_err-sort_maps-clause-value_partly t c = unmoved AsBeforeOrInKeyOrder (λ es. inl refl) (tree c.args.pair.now.1)

pub sorting::sort_fields-sort_field-requires : goal.sorting::sort_fields-sort_field-requires
sorting::sort_fields-sort_field-requires t c =
    let k : count (tree c.index_mut.result.now.1) ≤ count_fields (field_trees c.args.fields.items)
    = count_fields_left _ c.loop-index.fields.items c.loop-index.index _ c.loop-index.invariant.left (omega arith) c.index_mut.ensures.value in search rules

pub sorting::sort_fields-returns-in-Err-clause-partly : goal.sorting::sort_fields-returns-in-Err-clause-partly
sorting::sort_fields-returns-in-Err-clause-partly t c =
    fields_stop AsBeforeOrInKeyOrder (λ es. inl refl) _ c.loop-index.fields.items c.loop-index.index _ c.sort_field.new.field c.loop-index.invariant.partly (omega arith)
    c.index_mut.ensures.value c.sort_field.ensures.name c.sort_field.ensures.partly

pub sorting::sort_fields-loop-index-preserved : goal.sorting::sort_fields-loop-index-preserved
sorting::sort_fields-loop-index-preserved t c = record {
  left = left_turn _ c.loop-index.fields.items c.loop-index.index c.sort_field.new.field c.loop-index.invariant.left;
  same_length = length-set c.loop-index.fields.items c.loop-index.index c.sort_field.new.field ∙ c.loop-index.invariant.same_length;
  sorted = fields_turn InKeyOrder _ c.loop-index.fields.items c.loop-index.index _ c.sort_field.new.field c.loop-index.invariant.sorted (omega arith)
      c.index_mut.ensures.value c.sort_field.ensures.name c.in-Ok.ensures.value;
  partly = fields_turn AsBeforeOrInKeyOrder _ c.loop-index.fields.items c.loop-index.index _ c.sort_field.new.field c.loop-index.invariant.partly (omega arith)
      c.index_mut.ensures.value c.sort_field.ensures.name c.sort_field.ensures.partly;
}

pub sorting::sort_fields-returns-clause-ok : goal.sorting::sort_fields-returns-clause-ok
sorting::sort_fields-returns-clause-ok t c = fields_end InKeyOrder _ _ c.loop-index.index c.loop-index.invariant.sorted (omega arith)

pub sorting::sort_fields-returns-clause-partly : goal.sorting::sort_fields-returns-clause-partly
sorting::sort_fields-returns-clause-partly t c = fields_end AsBeforeOrInKeyOrder _ _ c.loop-index.index c.loop-index.invariant.partly (omega arith)

pub sorting::sort_inside-returns-in_default : goal.sorting::sort_inside-returns-in_default
sorting::sort_inside-returns-in_default t c =
    let leaf : is_leaf (tree c.args.node) ≡ true = search (rules, the_lemmas) in
    record { ok = leaf_stays InKeyOrder _ leaf; partly = leaf_stays AsBeforeOrInKeyOrder _ leaf }
