use Rattle.snap_content.proofs.Prelude.{◌≡◌, true, rules, of_calls, refl, ap, ◌≤◌, ◌+◌, arith, length-set, tree, item_trees, pair_trees, field_trees, count, count_items, count_pairs, count_fields, is_leaf, in_leaf, the_lemmas}
use Rattle.snap_content.proofs.Visits.{shrinks_at, walked_on, walked_off, some_walked, newtype_struct_walked, newtype_variant_walked, seq_walked, tuple_walked, tuple_struct_walked, tuple_variant_walked, map_walked, struct_walked, struct_variant_walked}
use Rattle.snap_content.proofs.WalkTurns.{count-set, count_at, count_pairs-set, count_pairs_at, count_fields-set, count_fields_at, items_turn, items_end, pairs_turn, pairs_end, fields_turn, fields_end}
use Rattle.snap_content.proofs.+walk.Goals as goal

pub content::Content::walk-walk_inside-requires : goal.content::Content::walk-walk_inside-requires
content::Content::walk-walk_inside-requires g t c κs within =
    let k : count (tree c.replace-whole.result) ≤ count (tree c.args.self.now) = shrinks_at _ _ _ _ _ _ _ c.requires.shrinks c.visit.ensures c.replace-whole.ensures.value in search (rules, of_calls)

pub content::Content::walk-returns-then-visit-clause-calls : goal.content::Content::walk-returns-then-visit-clause-calls
content::Content::walk-returns-then-visit-clause-calls g t c =
    rw c.replace.ensures.after (walked_on _ _ _ _ _ _ _ _ _ c.visit.ensures c.if-visit.true c.replace-whole.ensures.value c.walk_inside.ensures.calls)

pub content::Content::walk-returns-then-visit-clause-shrinks : goal.content::Content::walk-returns-then-visit-clause-shrinks
content::Content::walk-returns-then-visit-clause-shrinks g t c =
    let same : count (tree c.replace.new.dest) ≡ count (tree c.walk_inside.result) = ap (λ x. count (tree x)) c.replace.ensures.after in
    let k : count (tree c.replace-whole.result) ≤ count (tree c.args.self.now) = shrinks_at _ _ _ _ _ _ _ c.requires.shrinks c.visit.ensures c.replace-whole.ensures.value in omega arith

pub content::Content::walk-returns-else-visit-clause-calls : goal.content::Content::walk-returns-else-visit-clause-calls
content::Content::walk-returns-else-visit-clause-calls g t c = walked_off _ _ _ _ _ _ c.visit.ensures c.if-visit.false

pub content::Content::walk-returns-else-visit-clause-shrinks : goal.content::Content::walk-returns-else-visit-clause-shrinks
content::Content::walk-returns-else-visit-clause-shrinks g t c = shrinks_at _ _ _ _ _ _ _ c.requires.shrinks c.visit.ensures refl

pub walking::walk_inside-returns-in_default-clause-calls : goal.walking::walk_inside-returns-in_default-clause-calls
walking::walk_inside-returns-in_default-clause-calls g t c =
    let leaf : is_leaf (tree c.args.node) ≡ true = search (rules, the_lemmas) in in_leaf leaf

pub walking::walk_inside-returns-in-Some-clause-calls : goal.walking::walk_inside-returns-in-Some-clause-calls
walking::walk_inside-returns-in-Some-clause-calls g t c = some_walked _ _ _ _ _ _ c.in-Some.is c.walk_box.ensures.calls

pub walking::walk_inside-returns-in-NewtypeStruct-clause-calls : goal.walking::walk_inside-returns-in-NewtypeStruct-clause-calls
walking::walk_inside-returns-in-NewtypeStruct-clause-calls g t c = newtype_struct_walked _ _ _ _ _ _ _ c.in-NewtypeStruct.is c.walk_box-in-NewtypeStruct.ensures.calls

pub walking::walk_inside-returns-in-NewtypeVariant-clause-calls : goal.walking::walk_inside-returns-in-NewtypeVariant-clause-calls
walking::walk_inside-returns-in-NewtypeVariant-clause-calls g t c = newtype_variant_walked _ _ _ _ _ _ _ _ _ c.in-NewtypeVariant.is c.walk_box-in-NewtypeVariant.ensures.calls

pub walking::walk_inside-returns-in-Seq-clause-calls : goal.walking::walk_inside-returns-in-Seq-clause-calls
walking::walk_inside-returns-in-Seq-clause-calls g t c = seq_walked _ _ _ _ _ _ c.in-Seq.is c.walk_list.ensures.calls

pub walking::walk_inside-returns-in-Tuple-clause-calls : goal.walking::walk_inside-returns-in-Tuple-clause-calls
walking::walk_inside-returns-in-Tuple-clause-calls g t c = tuple_walked _ _ _ _ _ _ c.in-Tuple.is c.walk_list-in-Tuple.ensures.calls

pub walking::walk_inside-returns-in-TupleStruct-clause-calls : goal.walking::walk_inside-returns-in-TupleStruct-clause-calls
walking::walk_inside-returns-in-TupleStruct-clause-calls g t c = tuple_struct_walked _ _ _ _ _ _ _ c.in-TupleStruct.is c.walk_list-in-TupleStruct.ensures.calls

pub walking::walk_inside-returns-in-TupleVariant-clause-calls : goal.walking::walk_inside-returns-in-TupleVariant-clause-calls
walking::walk_inside-returns-in-TupleVariant-clause-calls g t c = tuple_variant_walked _ _ _ _ _ _ _ _ _ c.in-TupleVariant.is c.walk_list-in-TupleVariant.ensures.calls

pub walking::walk_inside-returns-in-Map-clause-calls : goal.walking::walk_inside-returns-in-Map-clause-calls
walking::walk_inside-returns-in-Map-clause-calls g t c = map_walked _ _ _ _ _ _ c.in-Map.is c.walk_map.ensures.calls

pub walking::walk_inside-returns-in-Struct-clause-calls : goal.walking::walk_inside-returns-in-Struct-clause-calls
walking::walk_inside-returns-in-Struct-clause-calls g t c = struct_walked _ _ _ _ _ _ _ c.in-Struct.is c.walk_struct.ensures.calls

pub walking::walk_inside-returns-in-StructVariant-clause-calls : goal.walking::walk_inside-returns-in-StructVariant-clause-calls
walking::walk_inside-returns-in-StructVariant-clause-calls g t c = struct_variant_walked _ _ _ _ _ _ _ _ _ c.in-StructVariant.is c.walk_struct-in-StructVariant.ensures.calls

pub walking::walk_items-walk-requires : goal.walking::walk_items-walk-requires
walking::walk_items-walk-requires g t c κs within =
    let k : count (tree c.index_mut.result.now) ≤ count_items (item_trees c.loop-index.items.items) = count_at _ c.loop-index.index _ (omega arith) c.index_mut.ensures.value in search rules

pub walking::walk_items-loop-index-preserved : goal.walking::walk_items-loop-index-preserved
walking::walk_items-loop-index-preserved g t c = record {
  callable = c.walk.ensures.callable;
  shrinks = omega (arith, count-set c.loop-index.items.items c.loop-index.index c.index_mut.result.now c.walk.new.self (omega arith) c.index_mut.ensures.value);
  same_length = omega (arith, length-set c.loop-index.items.items c.loop-index.index c.walk.new.self);
  so_far = items_turn _ _ _ _ _ _ _ _ _ c.loop-index.invariant.so_far (omega arith) c.index_mut.ensures.value c.walk.ensures.calls;
}

pub walking::walk_items-returns-clause-calls : goal.walking::walk_items-returns-clause-calls
walking::walk_items-returns-clause-calls g t c = items_end _ _ _ _ _ c.loop-index.index c.loop-index.invariant.so_far (omega arith)

pub walking::walk_pairs-walk_pair-requires : goal.walking::walk_pairs-walk_pair-requires
walking::walk_pairs-walk_pair-requires g t c κs within =
    let k : count (tree c.index_mut.result.now.0) + count (tree c.index_mut.result.now.1) ≤ count_pairs (pair_trees c.loop-index.items.items) = count_pairs_at _ c.loop-index.index _ (omega arith) c.index_mut.ensures.value in search rules

pub walking::walk_pairs-loop-index-preserved : goal.walking::walk_pairs-loop-index-preserved
walking::walk_pairs-loop-index-preserved g t c = record {
  callable = c.walk_pair.ensures.callable;
  shrinks = omega (arith, count_pairs-set c.loop-index.items.items c.loop-index.index c.index_mut.result.now c.walk_pair.new.pair (omega arith) c.index_mut.ensures.value);
  same_length = omega (arith, length-set c.loop-index.items.items c.loop-index.index c.walk_pair.new.pair);
  so_far = pairs_turn _ _ _ _ _ _ _ _ _ _ c.loop-index.invariant.so_far (omega arith) c.index_mut.ensures.value c.walk_pair.ensures.calls.1 c.walk_pair.ensures.calls.2;
}

pub walking::walk_pairs-returns-clause-calls : goal.walking::walk_pairs-returns-clause-calls
walking::walk_pairs-returns-clause-calls g t c = pairs_end _ _ _ _ _ c.loop-index.index c.loop-index.invariant.so_far (omega arith)

pub walking::walk_fields-walk_field-requires : goal.walking::walk_fields-walk_field-requires
walking::walk_fields-walk_field-requires g t c κs within =
    let k : count (tree c.index_mut.result.now.1) ≤ count_fields (field_trees c.loop-index.items.items) = count_fields_at _ c.loop-index.index _ (omega arith) c.index_mut.ensures.value in search rules

pub walking::walk_fields-loop-index-preserved : goal.walking::walk_fields-loop-index-preserved
walking::walk_fields-loop-index-preserved g t c = record {
  callable = c.walk_field.ensures.callable;
  shrinks = omega (arith, count_fields-set c.loop-index.items.items c.loop-index.index c.index_mut.result.now c.walk_field.new.field (omega arith) c.index_mut.ensures.value);
  same_length = omega (arith, length-set c.loop-index.items.items c.loop-index.index c.walk_field.new.field);
  so_far = fields_turn _ _ _ _ _ _ _ _ _ c.loop-index.invariant.so_far (omega arith) c.index_mut.ensures.value c.walk_field.ensures.calls c.walk_field.ensures.name;
}

pub walking::walk_fields-returns-clause-calls : goal.walking::walk_fields-returns-clause-calls
walking::walk_fields-returns-clause-calls g t c = fields_end _ _ _ _ _ c.loop-index.index c.loop-index.invariant.so_far (omega arith)
