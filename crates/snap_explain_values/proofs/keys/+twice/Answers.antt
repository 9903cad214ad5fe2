use Rattle.snap_explain_values.proofs.Prelude.{sym, ◌∙◌}
use Rattle.snap_explain_values.proofs.Tests.{any_here, any_end}
use Rattle.snap_explain_values.proofs.TreeTests.{twice_in, twice_in_pair, twice_in_field, items_any, pairs_any, fields_any, map_asked, struct_asked, struct_variant_asked, either_first, either_second}
use Rattle.snap_explain_values.proofs.keys.+twice.Goals as goal
use Rattle.snap_explain_values.proofs.keys.+twice.Goals.{pair_has_twice-then-branch-via-then-branch, pair_has_twice-then-branch-via-else-branch+in_ok-has_key_twice-2+then-branch-2}

pub has_key_twice-returns-in-Map : goal.has_key_twice-returns-in-Map
has_key_twice-returns-in-Map t c = map_asked _ _ _ _ c.in-Map.is c.as_slice-in-Map.ensures c.map_has_twice.ensures

pub has_key_twice-returns-in-Struct : goal.has_key_twice-returns-in-Struct
has_key_twice-returns-in-Struct t c = struct_asked _ _ _ _ _ c.in-Struct.is c.as_slice-in-Struct.ensures c.field_has_twice.ensures

pub has_key_twice-returns-in-StructVariant : goal.has_key_twice-returns-in-StructVariant
has_key_twice-returns-in-StructVariant t c =
    struct_variant_asked _ _ _ _ _ _ _ c.in-StructVariant.is c.as_slice-in-StructVariant.ensures c.field_has_twice-in-StructVariant.ensures

pub item_has_twice-returns-then-branch : goal.item_has_twice-returns-then-branch
item_has_twice-returns-then-branch t c =
    sym (items_any c.args.items.now ∙ any_here twice_in c.args.items.now c.loop-item.item-index c.item-item.result c.loop-item-test.true c.item-item.is
    (sym c.in_ok-has_key_twice.ensures ∙ c.if-branch.true))

pub item_has_twice-returns : goal.item_has_twice-returns
item_has_twice-returns t c = sym (items_any c.args.items.now ∙ any_end twice_in c.args.items.now c.loop-item.item-index c.loop-item-test.false c.loop-item.invariant)

pub pair_has_twice-returns-then-branch : goal.pair_has_twice-returns-then-branch
pair_has_twice-returns-then-branch t c =
    sym (pairs_any c.args.pairs.now ∙ any_here twice_in_pair c.args.pairs.now c.loop-pair.pair-index c.pair-item.result c.loop-pair-test.true c.pair-item.is
    (elim c.then-branch.branch [
      | pair_has_twice-then-branch-via-then-branch w ↦ either_first _ _ (sym c.in_ok-has_key_twice.ensures ∙ w.if-branch.true)
      | pair_has_twice-then-branch-via-else-branch+in_ok-has_key_twice-2+then-branch-2 w ↦ either_second _ _ (sym w.in_ok-has_key_twice-2.ensures ∙ w.if-branch-2.true)
    ]))

pub pair_has_twice-returns : goal.pair_has_twice-returns
pair_has_twice-returns t c = sym (pairs_any c.args.pairs.now ∙ any_end twice_in_pair c.args.pairs.now c.loop-pair.pair-index c.loop-pair-test.false c.loop-pair.invariant)

pub field_has_twice-returns-then-branch : goal.field_has_twice-returns-then-branch
field_has_twice-returns-then-branch t c =
    sym (fields_any c.args.fields.now ∙ any_here twice_in_field c.args.fields.now c.loop-field.field-index c.field-item.result c.loop-field-test.true c.field-item.is
    (sym c.in_ok-has_key_twice.ensures ∙ c.if-branch.true))

pub field_has_twice-returns : goal.field_has_twice-returns
field_has_twice-returns t c = sym (fields_any c.args.fields.now ∙ any_end twice_in_field c.args.fields.now c.loop-field.field-index c.loop-field-test.false c.loop-field.invariant)
