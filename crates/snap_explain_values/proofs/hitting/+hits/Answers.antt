use Rattle.snap_explain_values.proofs.Prelude.{sym, ◌∙◌, map, step_of, parts_of}
use Rattle.snap_explain_values.proofs.Tests.{any_here, any_end}
use Rattle.snap_explain_values.proofs.HitParts.{hit_key, hit_value, hit_field, keys_any, values_any, fields_any, item_here, item_passed, value_told, key_told, map_hit, struct_hit, struct_variant_hit}
use Rattle.snap_explain_values.proofs.hitting.+hits.Goals as goal

pub hits_inside-returns-in-Map-clause-hit : goal.hits_inside-returns-in-Map-clause-hit
hits_inside-returns-in-Map-clause-hit t c = map_hit _ _ _ _ _ _ c.in-Map.is c.as_slice-in-Map.ensures c.hits_pair.ensures.hit

pub hits_inside-returns-in-Struct-clause-hit : goal.hits_inside-returns-in-Struct-clause-hit
hits_inside-returns-in-Struct-clause-hit t c = struct_hit _ _ _ _ _ _ _ c.in-Struct.is c.as_slice-in-Struct.ensures c.hits_field.ensures.hit

pub hits_inside-returns-in-StructVariant-clause-hit : goal.hits_inside-returns-in-StructVariant-clause-hit
hits_inside-returns-in-StructVariant-clause-hit t c =
    struct_variant_hit _ _ _ _ _ _ _ _ _ c.in-StructVariant.is c.as_slice-in-StructVariant.ensures c.hits_field-in-StructVariant.ensures.hit

pub hits_item-returns-then-branch-clause-hit : goal.hits_item-returns-then-branch-clause-hit
hits_item-returns-then-branch-clause-hit t c =
    let told = rw c.loop-place.invariant.path at c.in_ok-hits_behind.ensures.hit in
    sym (sym c.loop-place.invariant.left
    ∙ item_here (parts_of c.args.selector.now) (map step_of c.args.path.now.items) c.args.items.now c.loop-place.place c.index-items-place.result c.loop-place-test.true c.index-items-place.is
    (sym told ∙ c.if-branch.true))

pub hits_item-loop-place-preserved : goal.hits_item-loop-place-preserved
hits_item-loop-place-preserved t c =
    let told = rw c.loop-place.invariant.path at c.in_ok-hits_behind.ensures.hit in
    record {
      path = c.in_ok-hits_behind.ensures.path ∙ c.loop-place.invariant.path;
      left =
          sym (item_passed (parts_of c.args.selector.now) (map step_of c.args.path.now.items) c.args.items.now c.loop-place.place c.index-items-place.result c.loop-place-test.true c.index-items-place.is
          (sym told ∙ c.if-branch.false))
          ∙ c.loop-place.invariant.left;
    }

pub hits_pair-returns-then-branch-clause-hit : goal.hits_pair-returns-then-branch-clause-hit
hits_pair-returns-then-branch-clause-hit t c = value_told (parts_of c.args.selector.now) (map step_of c.args.path.now.items) _ _ c.in_ok-hits_value.ensures.hit c.if-branch.true

pub hits_pair-returns-clause-hit : goal.hits_pair-returns-clause-hit
hits_pair-returns-clause-hit t c =
    key_told (parts_of c.args.selector.now) c.args.path.now.items _ _ _ _ _ _ c.in_ok-hits_value.ensures.path c.in_ok-push.ensures.items c.in_ok-key_step.ensures
    c.in_ok-hits_value.ensures.hit c.if-branch.false c.in_ok-hit.ensures.hit

pub hits_value-returns-then-branch-clause-hit : goal.hits_value-returns-then-branch-clause-hit
hits_value-returns-then-branch-clause-hit t c =
    let told = rw (c.loop-pair.invariant.path, c.in_ok-try_clone.ensures) at c.in_ok-hits_behind.ensures.hit in
    let test = hit_value (parts_of c.args.selector.now) (map step_of c.args.path.now.items) in
    sym (values_any (parts_of c.args.selector.now) (map step_of c.args.path.now.items) c.args.pairs.now
    ∙ any_here test c.args.pairs.now c.loop-pair.pair-index c.pair-item.result c.loop-pair-test.true c.pair-item.is (sym told ∙ c.if-branch.true))

pub hits_value-returns-clause-hit : goal.hits_value-returns-clause-hit
hits_value-returns-clause-hit t c =
    let test = hit_value (parts_of c.args.selector.now) (map step_of c.args.path.now.items) in
    sym (values_any (parts_of c.args.selector.now) (map step_of c.args.path.now.items) c.args.pairs.now
    ∙ any_end test c.args.pairs.now c.loop-pair.pair-index c.loop-pair-test.false c.loop-pair.invariant.none)

pub hits_key-returns-then-branch-clause-hit : goal.hits_key-returns-then-branch-clause-hit
hits_key-returns-then-branch-clause-hit t c =
    let told = rw c.loop-pair.invariant.path at c.in_ok-hits_at.ensures.hit in
    let test = hit_key (parts_of c.args.selector.now) (map step_of c.args.path.now.items) in
    sym (keys_any (parts_of c.args.selector.now) (map step_of c.args.path.now.items) c.args.pairs.now
    ∙ any_here test c.args.pairs.now c.loop-pair.pair-index c.pair-item.result c.loop-pair-test.true c.pair-item.is (sym told ∙ c.if-branch.true))

pub hits_key-returns-clause-hit : goal.hits_key-returns-clause-hit
hits_key-returns-clause-hit t c =
    let test = hit_key (parts_of c.args.selector.now) (map step_of c.args.path.now.items) in
    sym (keys_any (parts_of c.args.selector.now) (map step_of c.args.path.now.items) c.args.pairs.now
    ∙ any_end test c.args.pairs.now c.loop-pair.pair-index c.loop-pair-test.false c.loop-pair.invariant.none)

pub hits_field-returns-then-branch-clause-hit : goal.hits_field-returns-then-branch-clause-hit
hits_field-returns-then-branch-clause-hit t c =
    let told = rw (c.loop-field.invariant.path, c.in_ok-try_clone.ensures) at c.in_ok-hits_behind.ensures.hit in
    let test = hit_field (parts_of c.args.selector.now) (map step_of c.args.path.now.items) in
    sym (fields_any (parts_of c.args.selector.now) (map step_of c.args.path.now.items) c.args.fields.now
    ∙ any_here test c.args.fields.now c.loop-field.field-index c.field-item.result c.loop-field-test.true c.field-item.is (sym told ∙ c.if-branch.true))

pub hits_field-returns-clause-hit : goal.hits_field-returns-clause-hit
hits_field-returns-clause-hit t c =
    let test = hit_field (parts_of c.args.selector.now) (map step_of c.args.path.now.items) in
    sym (fields_any (parts_of c.args.selector.now) (map step_of c.args.path.now.items) c.args.fields.now
    ∙ any_end test c.args.fields.now c.loop-field.field-index c.loop-field-test.false c.loop-field.invariant.none)
