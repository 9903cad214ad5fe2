use Rattle.snap_json.proofs.Prelude.{◌≡◌, rules, ◌+◌, [], ◌∷◌, ◌++◌, take, sym, ap, ◌∙◌, take_more, take_all, closing, whole, behind, further, value_written, pair_written, field_written, item_list_at, pair_list_at, field_list_at, bytes_written, item_list_written, pair_list_written, field_list_written, variant_written, IsKeptWithin, IsPairWithin, IsFieldWithin}
use Rattle.std.proofs.lemmas.List.Elements.{All-nil}
use Rattle.snap_json.proofs.Behind.{on_exit, stopped_first, stopped_behind, stopped_at, added_behind, added_none, wrote_behind, wrote_at, wrote_as, out_of_memory}
use Rattle.snap_json.proofs.Collections.{failed_opening, failed_first, failed_further, added_more, wrote_collection}
use Rattle.snap_json.proofs.Within.{all_more, all_in, on_ok_with, within_bytes, within_seq, within_tuple, within_tuple_struct, within_map, within_struct, within_newtype_variant, within_tuple_variant, within_struct_variant}
use Rattle.snap_json.proofs.Trees.{of_bytes, of_seq, of_tuple, of_tuple_struct, of_map, of_struct, of_newtype_variant, of_tuple_variant, of_struct_variant}
use Rattle.snap_json.proofs.walk.+walk.Goals as goal

pub write_items-returns-in_err-inner-clause-wrote : goal.write_items-returns-in_err-inner-clause-wrote
write_items-returns-in_err-inner-clause-wrote t c =
    on_exit c.from_residual.result c.from_residual.ensures.1
    (out_of_memory c.args.out.now (item_list_at c.args.format c.args.column c.args.items.now (c.args.column + 2)))

pub write_items-returns-in_err-write_opening-clause-wrote : goal.write_items-returns-in_err-write_opening-clause-wrote
write_items-returns-in_err-write_opening-clause-wrote t c =
    on_exit c.from_residual-in_err-write_opening.result c.from_residual-in_err-write_opening.ensures.1
    (stopped_at (item_list_at c.args.format c.args.column c.args.items.now) c.in_ok-inner.inner (c.args.column + 2) c.in_ok-inner.ensures.ok
    (failed_opening c.args.format c.args.column c.in_ok-inner.inner 91 93 (value_written c.args.format c.in_ok-inner.inner) c.args.items.now c.in-Some.rest.now c.in-Some.first.now c.in-Some.ensures.cases.0 c.in_err-write_opening.ensures))

pub write_items-returns-in_err-write_value-clause-wrote : goal.write_items-returns-in_err-write_value-clause-wrote
write_items-returns-in_err-write_value-clause-wrote t c =
    on_exit c.from_residual-in_err-write_value.result c.from_residual-in_err-write_value.ensures.1
    (stopped_at (item_list_at c.args.format c.args.column c.args.items.now) c.in_ok-inner.inner (c.args.column + 2) c.in_ok-inner.ensures.ok
    (failed_first c.args.format c.args.column c.in_ok-inner.inner 91 93 (value_written c.args.format c.in_ok-inner.inner) c.args.items.now c.in-Some.rest.now c.in-Some.first.now c.in-Some.ensures.cases.0 c.in_ok-write_opening.ensures c.in_err-write_value.ensures.wrote))

pub write_items-returns-in_err-write_comma-clause-wrote : goal.write_items-returns-in_err-write_comma-clause-wrote
write_items-returns-in_err-write_comma-clause-wrote t c =
    on_exit c.from_residual-in_err-write_comma.result c.from_residual-in_err-write_comma.ensures.1
    (stopped_at (item_list_at c.args.format c.args.column c.args.items.now) c.in_ok-inner.inner (c.args.column + 2) c.in_ok-inner.ensures.ok
    (failed_further c.args.format c.args.column c.in_ok-inner.inner 91 93 (value_written c.args.format c.in_ok-inner.inner) c.args.items.now c.in-Some.rest.now c.in-Some.first.now c.item-item.result c.loop-item.item-index c.in-Some.ensures.cases.0 c.in_ok-write_opening.ensures c.in_ok-write_value.ensures.wrote
    c.loop-item.invariant.added c.loop-item-test.true c.item-item.is
    (stopped_first (value_written c.args.format c.in_ok-inner.inner c.item-item.result) c.in_err-write_comma.ensures)))

pub write_items-returns-in_err-write_value-2-clause-wrote : goal.write_items-returns-in_err-write_value-2-clause-wrote
write_items-returns-in_err-write_value-2-clause-wrote t c =
    on_exit c.from_residual-in_err-write_value-2.result c.from_residual-in_err-write_value-2.ensures.1
    (stopped_at (item_list_at c.args.format c.args.column c.args.items.now) c.in_ok-inner.inner (c.args.column + 2) c.in_ok-inner.ensures.ok
    (failed_further c.args.format c.args.column c.in_ok-inner.inner 91 93 (value_written c.args.format c.in_ok-inner.inner) c.args.items.now c.in-Some.rest.now c.in-Some.first.now c.item-item.result c.loop-item.item-index c.in-Some.ensures.cases.0 c.in_ok-write_opening.ensures c.in_ok-write_value.ensures.wrote
    c.loop-item.invariant.added c.loop-item-test.true c.item-item.is
    (stopped_behind c.in_ok-write_comma.ensures c.in_err-write_value-2.ensures.wrote)))

pub write_items-loop-item-init : goal.write_items-loop-item-init
write_items-loop-item-init t c = record {
  added = added_none c.write_value.new.out;
  within = All-nil IsKeptWithin;
}

pub write_items-loop-item-preserved : goal.write_items-loop-item-preserved
write_items-loop-item-preserved t c = record {
  added =
      added_more (further c.args.format c.in_ok-inner.inner (value_written c.args.format c.in_ok-inner.inner)) c.in-Some.rest.now c.loop-item.item-index c.item-item.result
      (take_more c.in-Some.rest.now c.loop-item.item-index c.item-item.result c.loop-item-test.true ∙ ap (λ x. take c.loop-item.item-index c.in-Some.rest.now ++ x ∷ []) (sym c.item-item.is))
      c.loop-item.invariant.added (added_behind c.in_ok-write_comma.ensures c.in_ok-write_value-2.ensures.wrote);
  within = all_more IsKeptWithin c.in-Some.rest.now c.loop-item.item-index c.item-item.result c.loop-item-test.true c.item-item.is c.loop-item.invariant.within c.in_ok-write_value-2.ensures.within;
}

pub write_items-returns-clause-wrote : goal.write_items-returns-clause-wrote
write_items-returns-clause-wrote t c =
    wrote_at c.write_closing.result c.args.out.now c.write_closing.new.out (item_list_at c.args.format c.args.column c.args.items.now) c.in_ok-inner.inner (c.args.column + 2) c.in_ok-inner.ensures.ok
    (wrote_collection c.write_closing.result c.write_closing.new.out c.args.format c.args.column c.in_ok-inner.inner 91 93 (value_written c.args.format c.in_ok-inner.inner) c.args.items.now c.in-Some.rest.now c.in-Some.first.now c.loop-item.item-index c.in-Some.ensures.cases.0 c.in_ok-write_opening.ensures c.in_ok-write_value.ensures.wrote
    c.loop-item.invariant.added (take_all c.loop-item.item-index c.in-Some.rest.now c.loop-item-test.false) c.write_closing.ensures)

pub write_items-returns-clause-within : goal.write_items-returns-clause-within
write_items-returns-clause-within t c =
    on_ok_with c.write_closing.result
    (all_in IsKeptWithin c.args.items.now c.in-Some.rest.now c.in-Some.first.now c.loop-item.item-index c.in-Some.ensures.cases.0 c.in_ok-write_value.ensures.within
    c.loop-item.invariant.within (take_all c.loop-item.item-index c.in-Some.rest.now c.loop-item-test.false))

pub write_pairs-returns-in_err-inner-clause-wrote : goal.write_pairs-returns-in_err-inner-clause-wrote
write_pairs-returns-in_err-inner-clause-wrote t c =
    on_exit c.from_residual.result c.from_residual.ensures.1
    (out_of_memory c.args.out.now (pair_list_at c.args.format c.args.column c.args.pairs.now (c.args.column + 2)))

pub write_pairs-returns-in_err-write_opening-clause-wrote : goal.write_pairs-returns-in_err-write_opening-clause-wrote
write_pairs-returns-in_err-write_opening-clause-wrote t c =
    on_exit c.from_residual-in_err-write_opening.result c.from_residual-in_err-write_opening.ensures.1
    (stopped_at (pair_list_at c.args.format c.args.column c.args.pairs.now) c.in_ok-inner.inner (c.args.column + 2) c.in_ok-inner.ensures.ok
    (failed_opening c.args.format c.args.column c.in_ok-inner.inner 123 125 (pair_written c.args.format c.in_ok-inner.inner) c.args.pairs.now c.in-Some.rest.now c.in-Some.field-0-0.now c.in-Some.ensures.cases.0 c.in_err-write_opening.ensures))

pub write_pairs-returns-in_err-write_key-clause-wrote : goal.write_pairs-returns-in_err-write_key-clause-wrote
write_pairs-returns-in_err-write_key-clause-wrote t c =
    on_exit c.from_residual-in_err-write_key.result c.from_residual-in_err-write_key.ensures.1
    (stopped_at (pair_list_at c.args.format c.args.column c.args.pairs.now) c.in_ok-inner.inner (c.args.column + 2) c.in_ok-inner.ensures.ok
    (failed_first c.args.format c.args.column c.in_ok-inner.inner 123 125 (pair_written c.args.format c.in_ok-inner.inner) c.args.pairs.now c.in-Some.rest.now c.in-Some.field-0-0.now c.in-Some.ensures.cases.0 c.in_ok-write_opening.ensures
    (stopped_first (value_written c.args.format c.in_ok-inner.inner c.in-Some.field-0-0.now.1) c.in_err-write_key.ensures)))

pub write_pairs-returns-in_err-write_value-clause-wrote : goal.write_pairs-returns-in_err-write_value-clause-wrote
write_pairs-returns-in_err-write_value-clause-wrote t c =
    on_exit c.from_residual-in_err-write_value.result c.from_residual-in_err-write_value.ensures.1
    (stopped_at (pair_list_at c.args.format c.args.column c.args.pairs.now) c.in_ok-inner.inner (c.args.column + 2) c.in_ok-inner.ensures.ok
    (failed_first c.args.format c.args.column c.in_ok-inner.inner 123 125 (pair_written c.args.format c.in_ok-inner.inner) c.args.pairs.now c.in-Some.rest.now c.in-Some.field-0-0.now c.in-Some.ensures.cases.0 c.in_ok-write_opening.ensures (stopped_behind c.in_ok-write_key.ensures c.in_err-write_value.ensures.wrote)))

pub write_pairs-returns-in_err-write_comma-clause-wrote : goal.write_pairs-returns-in_err-write_comma-clause-wrote
write_pairs-returns-in_err-write_comma-clause-wrote t c =
    on_exit c.from_residual-in_err-write_comma.result c.from_residual-in_err-write_comma.ensures.1
    (stopped_at (pair_list_at c.args.format c.args.column c.args.pairs.now) c.in_ok-inner.inner (c.args.column + 2) c.in_ok-inner.ensures.ok
    (failed_further c.args.format c.args.column c.in_ok-inner.inner 123 125 (pair_written c.args.format c.in_ok-inner.inner) c.args.pairs.now c.in-Some.rest.now c.in-Some.field-0-0.now c.loop-key-item.result c.loop-key.key-index c.in-Some.ensures.cases.0 c.in_ok-write_opening.ensures (added_behind c.in_ok-write_key.ensures c.in_ok-write_value.ensures.wrote)
    c.loop-key.invariant.added c.loop-key-test.true c.loop-key-item.is
    (stopped_first (pair_written c.args.format c.in_ok-inner.inner c.loop-key-item.result) c.in_err-write_comma.ensures)))

pub write_pairs-returns-in_err-write_key-2-clause-wrote : goal.write_pairs-returns-in_err-write_key-2-clause-wrote
write_pairs-returns-in_err-write_key-2-clause-wrote t c =
    on_exit c.from_residual-in_err-write_key-2.result c.from_residual-in_err-write_key-2.ensures.1
    (stopped_at (pair_list_at c.args.format c.args.column c.args.pairs.now) c.in_ok-inner.inner (c.args.column + 2) c.in_ok-inner.ensures.ok
    (failed_further c.args.format c.args.column c.in_ok-inner.inner 123 125 (pair_written c.args.format c.in_ok-inner.inner) c.args.pairs.now c.in-Some.rest.now c.in-Some.field-0-0.now c.loop-key-item.result c.loop-key.key-index c.in-Some.ensures.cases.0 c.in_ok-write_opening.ensures (added_behind c.in_ok-write_key.ensures c.in_ok-write_value.ensures.wrote)
    c.loop-key.invariant.added c.loop-key-test.true c.loop-key-item.is
    (stopped_behind c.in_ok-write_comma.ensures
    (stopped_first (value_written c.args.format c.in_ok-inner.inner c.loop-key-item.result.1) c.in_err-write_key-2.ensures))))

pub write_pairs-returns-in_err-write_value-2-clause-wrote : goal.write_pairs-returns-in_err-write_value-2-clause-wrote
write_pairs-returns-in_err-write_value-2-clause-wrote t c =
    on_exit c.from_residual-in_err-write_value-2.result c.from_residual-in_err-write_value-2.ensures.1
    (stopped_at (pair_list_at c.args.format c.args.column c.args.pairs.now) c.in_ok-inner.inner (c.args.column + 2) c.in_ok-inner.ensures.ok
    (failed_further c.args.format c.args.column c.in_ok-inner.inner 123 125 (pair_written c.args.format c.in_ok-inner.inner) c.args.pairs.now c.in-Some.rest.now c.in-Some.field-0-0.now c.loop-key-item.result c.loop-key.key-index c.in-Some.ensures.cases.0 c.in_ok-write_opening.ensures (added_behind c.in_ok-write_key.ensures c.in_ok-write_value.ensures.wrote)
    c.loop-key.invariant.added c.loop-key-test.true c.loop-key-item.is
    (stopped_behind c.in_ok-write_comma.ensures (stopped_behind c.in_ok-write_key-2.ensures c.in_err-write_value-2.ensures.wrote))))

pub write_pairs-loop-key-init : goal.write_pairs-loop-key-init
write_pairs-loop-key-init t c = record {
  added = added_none c.write_value.new.out;
  within = All-nil IsPairWithin;
}

pub write_pairs-loop-key-preserved : goal.write_pairs-loop-key-preserved
write_pairs-loop-key-preserved t c = record {
  added =
      added_more (further c.args.format c.in_ok-inner.inner (pair_written c.args.format c.in_ok-inner.inner)) c.in-Some.rest.now c.loop-key.key-index c.loop-key-item.result
      (take_more c.in-Some.rest.now c.loop-key.key-index c.loop-key-item.result c.loop-key-test.true ∙ ap (λ x. take c.loop-key.key-index c.in-Some.rest.now ++ x ∷ []) (sym c.loop-key-item.is))
      c.loop-key.invariant.added (added_behind c.in_ok-write_comma.ensures (added_behind c.in_ok-write_key-2.ensures c.in_ok-write_value-2.ensures.wrote));
  within = all_more IsPairWithin c.in-Some.rest.now c.loop-key.key-index c.loop-key-item.result c.loop-key-test.true c.loop-key-item.is c.loop-key.invariant.within c.in_ok-write_value-2.ensures.within;
}

pub write_pairs-returns-clause-wrote : goal.write_pairs-returns-clause-wrote
write_pairs-returns-clause-wrote t c =
    wrote_at c.write_closing.result c.args.out.now c.write_closing.new.out (pair_list_at c.args.format c.args.column c.args.pairs.now) c.in_ok-inner.inner (c.args.column + 2) c.in_ok-inner.ensures.ok
    (wrote_collection c.write_closing.result c.write_closing.new.out c.args.format c.args.column c.in_ok-inner.inner 123 125 (pair_written c.args.format c.in_ok-inner.inner) c.args.pairs.now c.in-Some.rest.now c.in-Some.field-0-0.now c.loop-key.key-index c.in-Some.ensures.cases.0 c.in_ok-write_opening.ensures (added_behind c.in_ok-write_key.ensures c.in_ok-write_value.ensures.wrote)
    c.loop-key.invariant.added (take_all c.loop-key.key-index c.in-Some.rest.now c.loop-key-test.false) c.write_closing.ensures)

pub write_pairs-returns-clause-within : goal.write_pairs-returns-clause-within
write_pairs-returns-clause-within t c =
    on_ok_with c.write_closing.result
    (all_in IsPairWithin c.args.pairs.now c.in-Some.rest.now c.in-Some.field-0-0.now c.loop-key.key-index c.in-Some.ensures.cases.0 c.in_ok-write_value.ensures.within
    c.loop-key.invariant.within (take_all c.loop-key.key-index c.in-Some.rest.now c.loop-key-test.false))

pub write_fields-returns-in_err-inner-clause-wrote : goal.write_fields-returns-in_err-inner-clause-wrote
write_fields-returns-in_err-inner-clause-wrote t c =
    on_exit c.from_residual.result c.from_residual.ensures.1
    (out_of_memory c.args.out.now (field_list_at c.args.format c.args.column c.args.fields.now (c.args.column + 2)))

pub write_fields-returns-in_err-write_opening-clause-wrote : goal.write_fields-returns-in_err-write_opening-clause-wrote
write_fields-returns-in_err-write_opening-clause-wrote t c =
    on_exit c.from_residual-in_err-write_opening.result c.from_residual-in_err-write_opening.ensures.1
    (stopped_at (field_list_at c.args.format c.args.column c.args.fields.now) c.in_ok-inner.inner (c.args.column + 2) c.in_ok-inner.ensures.ok
    (failed_opening c.args.format c.args.column c.in_ok-inner.inner 123 125 (field_written c.args.format c.in_ok-inner.inner) c.args.fields.now c.in-Some.rest.now c.in-Some.field-0-0.now c.in-Some.ensures.cases.0 c.in_err-write_opening.ensures))

pub write_fields-returns-in_err-write_name-clause-wrote : goal.write_fields-returns-in_err-write_name-clause-wrote
write_fields-returns-in_err-write_name-clause-wrote t c =
    on_exit c.from_residual-in_err-write_name.result c.from_residual-in_err-write_name.ensures.1
    (stopped_at (field_list_at c.args.format c.args.column c.args.fields.now) c.in_ok-inner.inner (c.args.column + 2) c.in_ok-inner.ensures.ok
    (failed_first c.args.format c.args.column c.in_ok-inner.inner 123 125 (field_written c.args.format c.in_ok-inner.inner) c.args.fields.now c.in-Some.rest.now c.in-Some.field-0-0.now c.in-Some.ensures.cases.0 c.in_ok-write_opening.ensures
    (stopped_first (value_written c.args.format c.in_ok-inner.inner c.in-Some.field-0-0.now.1) c.in_err-write_name.ensures)))

pub write_fields-returns-in_err-write_value-clause-wrote : goal.write_fields-returns-in_err-write_value-clause-wrote
write_fields-returns-in_err-write_value-clause-wrote t c =
    on_exit c.from_residual-in_err-write_value.result c.from_residual-in_err-write_value.ensures.1
    (stopped_at (field_list_at c.args.format c.args.column c.args.fields.now) c.in_ok-inner.inner (c.args.column + 2) c.in_ok-inner.ensures.ok
    (failed_first c.args.format c.args.column c.in_ok-inner.inner 123 125 (field_written c.args.format c.in_ok-inner.inner) c.args.fields.now c.in-Some.rest.now c.in-Some.field-0-0.now c.in-Some.ensures.cases.0 c.in_ok-write_opening.ensures (stopped_behind c.in_ok-write_name.ensures c.in_err-write_value.ensures.wrote)))

pub write_fields-returns-in_err-write_comma-clause-wrote : goal.write_fields-returns-in_err-write_comma-clause-wrote
write_fields-returns-in_err-write_comma-clause-wrote t c =
    on_exit c.from_residual-in_err-write_comma.result c.from_residual-in_err-write_comma.ensures.1
    (stopped_at (field_list_at c.args.format c.args.column c.args.fields.now) c.in_ok-inner.inner (c.args.column + 2) c.in_ok-inner.ensures.ok
    (failed_further c.args.format c.args.column c.in_ok-inner.inner 123 125 (field_written c.args.format c.in_ok-inner.inner) c.args.fields.now c.in-Some.rest.now c.in-Some.field-0-0.now c.loop-name-item.result c.loop-name.name-index c.in-Some.ensures.cases.0 c.in_ok-write_opening.ensures (added_behind c.in_ok-write_name.ensures c.in_ok-write_value.ensures.wrote)
    c.loop-name.invariant.added c.loop-name-test.true c.loop-name-item.is
    (stopped_first (field_written c.args.format c.in_ok-inner.inner c.loop-name-item.result) c.in_err-write_comma.ensures)))

pub write_fields-returns-in_err-write_name-2-clause-wrote : goal.write_fields-returns-in_err-write_name-2-clause-wrote
write_fields-returns-in_err-write_name-2-clause-wrote t c =
    on_exit c.from_residual-in_err-write_name-2.result c.from_residual-in_err-write_name-2.ensures.1
    (stopped_at (field_list_at c.args.format c.args.column c.args.fields.now) c.in_ok-inner.inner (c.args.column + 2) c.in_ok-inner.ensures.ok
    (failed_further c.args.format c.args.column c.in_ok-inner.inner 123 125 (field_written c.args.format c.in_ok-inner.inner) c.args.fields.now c.in-Some.rest.now c.in-Some.field-0-0.now c.loop-name-item.result c.loop-name.name-index c.in-Some.ensures.cases.0 c.in_ok-write_opening.ensures (added_behind c.in_ok-write_name.ensures c.in_ok-write_value.ensures.wrote)
    c.loop-name.invariant.added c.loop-name-test.true c.loop-name-item.is
    (stopped_behind c.in_ok-write_comma.ensures
    (stopped_first (value_written c.args.format c.in_ok-inner.inner c.loop-name-item.result.1) c.in_err-write_name-2.ensures))))

pub write_fields-returns-in_err-write_value-2-clause-wrote : goal.write_fields-returns-in_err-write_value-2-clause-wrote
write_fields-returns-in_err-write_value-2-clause-wrote t c =
    on_exit c.from_residual-in_err-write_value-2.result c.from_residual-in_err-write_value-2.ensures.1
    (stopped_at (field_list_at c.args.format c.args.column c.args.fields.now) c.in_ok-inner.inner (c.args.column + 2) c.in_ok-inner.ensures.ok
    (failed_further c.args.format c.args.column c.in_ok-inner.inner 123 125 (field_written c.args.format c.in_ok-inner.inner) c.args.fields.now c.in-Some.rest.now c.in-Some.field-0-0.now c.loop-name-item.result c.loop-name.name-index c.in-Some.ensures.cases.0 c.in_ok-write_opening.ensures (added_behind c.in_ok-write_name.ensures c.in_ok-write_value.ensures.wrote)
    c.loop-name.invariant.added c.loop-name-test.true c.loop-name-item.is
    (stopped_behind c.in_ok-write_comma.ensures (stopped_behind c.in_ok-write_name-2.ensures c.in_err-write_value-2.ensures.wrote))))

pub write_fields-loop-name-init : goal.write_fields-loop-name-init
write_fields-loop-name-init t c = record {
  added = added_none c.write_value.new.out;
  within = All-nil IsFieldWithin;
}

pub write_fields-loop-name-preserved : goal.write_fields-loop-name-preserved
write_fields-loop-name-preserved t c = record {
  added =
      added_more (further c.args.format c.in_ok-inner.inner (field_written c.args.format c.in_ok-inner.inner)) c.in-Some.rest.now c.loop-name.name-index c.loop-name-item.result
      (take_more c.in-Some.rest.now c.loop-name.name-index c.loop-name-item.result c.loop-name-test.true ∙ ap (λ x. take c.loop-name.name-index c.in-Some.rest.now ++ x ∷ []) (sym c.loop-name-item.is))
      c.loop-name.invariant.added (added_behind c.in_ok-write_comma.ensures (added_behind c.in_ok-write_name-2.ensures c.in_ok-write_value-2.ensures.wrote));
  within = all_more IsFieldWithin c.in-Some.rest.now c.loop-name.name-index c.loop-name-item.result c.loop-name-test.true c.loop-name-item.is c.loop-name.invariant.within c.in_ok-write_value-2.ensures.within;
}

pub write_fields-returns-clause-wrote : goal.write_fields-returns-clause-wrote
write_fields-returns-clause-wrote t c =
    wrote_at c.write_closing.result c.args.out.now c.write_closing.new.out (field_list_at c.args.format c.args.column c.args.fields.now) c.in_ok-inner.inner (c.args.column + 2) c.in_ok-inner.ensures.ok
    (wrote_collection c.write_closing.result c.write_closing.new.out c.args.format c.args.column c.in_ok-inner.inner 123 125 (field_written c.args.format c.in_ok-inner.inner) c.args.fields.now c.in-Some.rest.now c.in-Some.field-0-0.now c.loop-name.name-index c.in-Some.ensures.cases.0 c.in_ok-write_opening.ensures (added_behind c.in_ok-write_name.ensures c.in_ok-write_value.ensures.wrote)
    c.loop-name.invariant.added (take_all c.loop-name.name-index c.in-Some.rest.now c.loop-name-test.false) c.write_closing.ensures)

pub write_fields-returns-clause-within : goal.write_fields-returns-clause-within
write_fields-returns-clause-within t c =
    on_ok_with c.write_closing.result
    (all_in IsFieldWithin c.args.fields.now c.in-Some.rest.now c.in-Some.field-0-0.now c.loop-name.name-index c.in-Some.ensures.cases.0 c.in_ok-write_value.ensures.within
    c.loop-name.invariant.within (take_all c.loop-name.name-index c.in-Some.rest.now c.loop-name-test.false))

pub write_newtype_variant-returns-in_err-inner-clause-wrote : goal.write_newtype_variant-returns-in_err-inner-clause-wrote
write_newtype_variant-returns-in_err-inner-clause-wrote t c =
    on_exit c.from_residual.result c.from_residual.ensures.1
    (out_of_memory c.args.out.now (variant_written c.args.format c.args.column (c.args.column + 2) c.args.variant.now (value_written c.args.format (c.args.column + 2) c.args.value.now)))

pub write_newtype_variant-returns-in_err-write_variant-clause-wrote : goal.write_newtype_variant-returns-in_err-write_variant-clause-wrote
write_newtype_variant-returns-in_err-write_variant-clause-wrote t c =
    on_exit c.from_residual-in_err-write_variant.result c.from_residual-in_err-write_variant.ensures.1
    (stopped_at (λ n. variant_written c.args.format c.args.column n c.args.variant.now (value_written c.args.format n c.args.value.now)) c.in_ok-inner.inner (c.args.column + 2) c.in_ok-inner.ensures.ok
    (stopped_first (behind (value_written c.args.format c.in_ok-inner.inner c.args.value.now) (whole (closing c.args.format c.args.column 125))) c.in_err-write_variant.ensures))

pub write_newtype_variant-returns-in_err-write_value-clause-wrote : goal.write_newtype_variant-returns-in_err-write_value-clause-wrote
write_newtype_variant-returns-in_err-write_value-clause-wrote t c =
    on_exit c.from_residual-in_err-write_value.result c.from_residual-in_err-write_value.ensures.1
    (stopped_at (λ n. variant_written c.args.format c.args.column n c.args.variant.now (value_written c.args.format n c.args.value.now)) c.in_ok-inner.inner (c.args.column + 2) c.in_ok-inner.ensures.ok
    (stopped_behind c.in_ok-write_variant.ensures (stopped_first (whole (closing c.args.format c.args.column 125)) c.in_err-write_value.ensures.wrote)))

pub write_newtype_variant-returns-clause-wrote : goal.write_newtype_variant-returns-clause-wrote
write_newtype_variant-returns-clause-wrote t c =
    let r = c.write_closing.result in
    let new = c.write_closing.new.out in
    wrote_at r c.args.out.now new (λ n. variant_written c.args.format c.args.column n c.args.variant.now (value_written c.args.format n c.args.value.now)) c.in_ok-inner.inner (c.args.column + 2) c.in_ok-inner.ensures.ok
    (wrote_behind r new (behind (value_written c.args.format c.in_ok-inner.inner c.args.value.now) (whole (closing c.args.format c.args.column 125))) c.in_ok-write_variant.ensures
    (wrote_behind r new (whole (closing c.args.format c.args.column 125)) c.in_ok-write_value.ensures.wrote c.write_closing.ensures))

pub write_newtype_variant-returns-clause-within : goal.write_newtype_variant-returns-clause-within
write_newtype_variant-returns-clause-within t c = on_ok_with c.write_closing.result c.in_ok-write_value.ensures.within

pub write_tuple_variant-returns-in_err-inner-clause-wrote : goal.write_tuple_variant-returns-in_err-inner-clause-wrote
write_tuple_variant-returns-in_err-inner-clause-wrote t c =
    on_exit c.from_residual.result c.from_residual.ensures.1
    (out_of_memory c.args.out.now (variant_written c.args.format c.args.column (c.args.column + 2) c.args.variant.now (item_list_written c.args.format (c.args.column + 2) c.args.items.now)))

pub write_tuple_variant-returns-in_err-write_variant-clause-wrote : goal.write_tuple_variant-returns-in_err-write_variant-clause-wrote
write_tuple_variant-returns-in_err-write_variant-clause-wrote t c =
    on_exit c.from_residual-in_err-write_variant.result c.from_residual-in_err-write_variant.ensures.1
    (stopped_at (λ n. variant_written c.args.format c.args.column n c.args.variant.now (item_list_written c.args.format n c.args.items.now)) c.in_ok-inner.inner (c.args.column + 2) c.in_ok-inner.ensures.ok
    (stopped_first (behind (item_list_written c.args.format c.in_ok-inner.inner c.args.items.now) (whole (closing c.args.format c.args.column 125))) c.in_err-write_variant.ensures))

pub write_tuple_variant-returns-in_err-write_items-clause-wrote : goal.write_tuple_variant-returns-in_err-write_items-clause-wrote
write_tuple_variant-returns-in_err-write_items-clause-wrote t c =
    on_exit c.from_residual-in_err-write_items.result c.from_residual-in_err-write_items.ensures.1
    (stopped_at (λ n. variant_written c.args.format c.args.column n c.args.variant.now (item_list_written c.args.format n c.args.items.now)) c.in_ok-inner.inner (c.args.column + 2) c.in_ok-inner.ensures.ok
    (stopped_behind c.in_ok-write_variant.ensures (stopped_first (whole (closing c.args.format c.args.column 125)) c.in_err-write_items.ensures.wrote)))

pub write_tuple_variant-returns-clause-wrote : goal.write_tuple_variant-returns-clause-wrote
write_tuple_variant-returns-clause-wrote t c =
    let r = c.write_closing.result in
    let new = c.write_closing.new.out in
    wrote_at r c.args.out.now new (λ n. variant_written c.args.format c.args.column n c.args.variant.now (item_list_written c.args.format n c.args.items.now)) c.in_ok-inner.inner (c.args.column + 2) c.in_ok-inner.ensures.ok
    (wrote_behind r new (behind (item_list_written c.args.format c.in_ok-inner.inner c.args.items.now) (whole (closing c.args.format c.args.column 125))) c.in_ok-write_variant.ensures
    (wrote_behind r new (whole (closing c.args.format c.args.column 125)) c.in_ok-write_items.ensures.wrote c.write_closing.ensures))

pub write_tuple_variant-returns-clause-within : goal.write_tuple_variant-returns-clause-within
write_tuple_variant-returns-clause-within t c = on_ok_with c.write_closing.result c.in_ok-write_items.ensures.within

pub write_struct_variant-returns-in_err-inner-clause-wrote : goal.write_struct_variant-returns-in_err-inner-clause-wrote
write_struct_variant-returns-in_err-inner-clause-wrote t c =
    on_exit c.from_residual.result c.from_residual.ensures.1
    (out_of_memory c.args.out.now (variant_written c.args.format c.args.column (c.args.column + 2) c.args.variant.now (field_list_written c.args.format (c.args.column + 2) c.args.fields.now)))

pub write_struct_variant-returns-in_err-write_variant-clause-wrote : goal.write_struct_variant-returns-in_err-write_variant-clause-wrote
write_struct_variant-returns-in_err-write_variant-clause-wrote t c =
    on_exit c.from_residual-in_err-write_variant.result c.from_residual-in_err-write_variant.ensures.1
    (stopped_at (λ n. variant_written c.args.format c.args.column n c.args.variant.now (field_list_written c.args.format n c.args.fields.now)) c.in_ok-inner.inner (c.args.column + 2) c.in_ok-inner.ensures.ok
    (stopped_first (behind (field_list_written c.args.format c.in_ok-inner.inner c.args.fields.now) (whole (closing c.args.format c.args.column 125))) c.in_err-write_variant.ensures))

pub write_struct_variant-returns-in_err-write_fields-clause-wrote : goal.write_struct_variant-returns-in_err-write_fields-clause-wrote
write_struct_variant-returns-in_err-write_fields-clause-wrote t c =
    on_exit c.from_residual-in_err-write_fields.result c.from_residual-in_err-write_fields.ensures.1
    (stopped_at (λ n. variant_written c.args.format c.args.column n c.args.variant.now (field_list_written c.args.format n c.args.fields.now)) c.in_ok-inner.inner (c.args.column + 2) c.in_ok-inner.ensures.ok
    (stopped_behind c.in_ok-write_variant.ensures (stopped_first (whole (closing c.args.format c.args.column 125)) c.in_err-write_fields.ensures.wrote)))

pub write_struct_variant-returns-clause-wrote : goal.write_struct_variant-returns-clause-wrote
write_struct_variant-returns-clause-wrote t c =
    let r = c.write_closing.result in
    let new = c.write_closing.new.out in
    wrote_at r c.args.out.now new (λ n. variant_written c.args.format c.args.column n c.args.variant.now (field_list_written c.args.format n c.args.fields.now)) c.in_ok-inner.inner (c.args.column + 2) c.in_ok-inner.ensures.ok
    (wrote_behind r new (behind (field_list_written c.args.format c.in_ok-inner.inner c.args.fields.now) (whole (closing c.args.format c.args.column 125))) c.in_ok-write_variant.ensures
    (wrote_behind r new (whole (closing c.args.format c.args.column 125)) c.in_ok-write_fields.ensures.wrote c.write_closing.ensures))

pub write_struct_variant-returns-clause-within : goal.write_struct_variant-returns-clause-within
write_struct_variant-returns-clause-within t c = on_ok_with c.write_closing.result c.in_ok-write_fields.ensures.within

pub write_value-returns-in-Bytes-clause-wrote : goal.write_value-returns-in-Bytes-clause-wrote
write_value-returns-in-Bytes-clause-wrote t c =
    wrote_as c.write_bytes.result c.args.out.now c.write_bytes.new.out (bytes_written c.args.format c.args.column c.as_slice.result.now) (value_written c.args.format c.args.column c.args.value.now)
    (of_bytes c.args.format c.args.column _ _ c.as_slice.result.now c.in-Bytes.is c.as_slice.ensures) c.write_bytes.ensures.wrote

pub write_value-returns-in-Bytes-clause-within : goal.write_value-returns-in-Bytes-clause-within
write_value-returns-in-Bytes-clause-within t c =
    within_bytes c.write_bytes.result c.args.value.now _ c.as_slice.result.now c.in-Bytes.is c.as_slice.ensures c.write_bytes.ensures.within

pub write_value-returns-in-Seq-clause-wrote : goal.write_value-returns-in-Seq-clause-wrote
write_value-returns-in-Seq-clause-wrote t c =
    wrote_as c.write_items.result c.args.out.now c.write_items.new.out (item_list_written c.args.format c.args.column c.as_slice-in-Seq.result.now) (value_written c.args.format c.args.column c.args.value.now)
    (of_seq c.args.format c.args.column _ _ c.as_slice-in-Seq.result.now c.in-Seq.is c.as_slice-in-Seq.ensures) c.write_items.ensures.wrote

pub write_value-returns-in-Seq-clause-within : goal.write_value-returns-in-Seq-clause-within
write_value-returns-in-Seq-clause-within t c =
    within_seq c.write_items.result c.args.value.now _ c.as_slice-in-Seq.result.now c.in-Seq.is c.as_slice-in-Seq.ensures c.write_items.ensures.within

pub write_value-returns-in-Tuple-clause-wrote : goal.write_value-returns-in-Tuple-clause-wrote
write_value-returns-in-Tuple-clause-wrote t c =
    wrote_as c.write_items-in-Tuple.result c.args.out.now c.write_items-in-Tuple.new.out (item_list_written c.args.format c.args.column c.as_slice-in-Tuple.result.now) (value_written c.args.format c.args.column c.args.value.now)
    (of_tuple c.args.format c.args.column _ _ c.as_slice-in-Tuple.result.now c.in-Tuple.is c.as_slice-in-Tuple.ensures) c.write_items-in-Tuple.ensures.wrote

pub write_value-returns-in-Tuple-clause-within : goal.write_value-returns-in-Tuple-clause-within
write_value-returns-in-Tuple-clause-within t c =
    within_tuple c.write_items-in-Tuple.result c.args.value.now _ c.as_slice-in-Tuple.result.now c.in-Tuple.is c.as_slice-in-Tuple.ensures c.write_items-in-Tuple.ensures.within

pub write_value-returns-in-TupleStruct-clause-wrote : goal.write_value-returns-in-TupleStruct-clause-wrote
write_value-returns-in-TupleStruct-clause-wrote t c =
    wrote_as c.write_items-in-TupleStruct.result c.args.out.now c.write_items-in-TupleStruct.new.out (item_list_written c.args.format c.args.column c.as_slice-in-TupleStruct.result.now) (value_written c.args.format c.args.column c.args.value.now)
    (of_tuple_struct c.args.format c.args.column _ _ _ c.as_slice-in-TupleStruct.result.now c.in-TupleStruct.is c.as_slice-in-TupleStruct.ensures) c.write_items-in-TupleStruct.ensures.wrote

pub write_value-returns-in-TupleStruct-clause-within : goal.write_value-returns-in-TupleStruct-clause-within
write_value-returns-in-TupleStruct-clause-within t c =
    within_tuple_struct c.write_items-in-TupleStruct.result c.args.value.now _ _ c.as_slice-in-TupleStruct.result.now c.in-TupleStruct.is c.as_slice-in-TupleStruct.ensures c.write_items-in-TupleStruct.ensures.within

pub write_value-returns-in-Map-clause-wrote : goal.write_value-returns-in-Map-clause-wrote
write_value-returns-in-Map-clause-wrote t c =
    wrote_as c.write_pairs.result c.args.out.now c.write_pairs.new.out (pair_list_written c.args.format c.args.column c.as_slice-in-Map.result.now) (value_written c.args.format c.args.column c.args.value.now)
    (of_map c.args.format c.args.column _ _ c.as_slice-in-Map.result.now c.in-Map.is c.as_slice-in-Map.ensures) c.write_pairs.ensures.wrote

pub write_value-returns-in-Map-clause-within : goal.write_value-returns-in-Map-clause-within
write_value-returns-in-Map-clause-within t c =
    within_map c.write_pairs.result c.args.value.now _ c.as_slice-in-Map.result.now c.in-Map.is c.as_slice-in-Map.ensures c.write_pairs.ensures.within

pub write_value-returns-in-Struct-clause-wrote : goal.write_value-returns-in-Struct-clause-wrote
write_value-returns-in-Struct-clause-wrote t c =
    wrote_as c.write_fields.result c.args.out.now c.write_fields.new.out (field_list_written c.args.format c.args.column c.as_slice-in-Struct.result.now) (value_written c.args.format c.args.column c.args.value.now)
    (of_struct c.args.format c.args.column _ _ _ c.as_slice-in-Struct.result.now c.in-Struct.is c.as_slice-in-Struct.ensures) c.write_fields.ensures.wrote

pub write_value-returns-in-Struct-clause-within : goal.write_value-returns-in-Struct-clause-within
write_value-returns-in-Struct-clause-within t c =
    within_struct c.write_fields.result c.args.value.now _ _ c.as_slice-in-Struct.result.now c.in-Struct.is c.as_slice-in-Struct.ensures c.write_fields.ensures.within

pub write_value-returns-in-NewtypeVariant-clause-wrote : goal.write_value-returns-in-NewtypeVariant-clause-wrote
write_value-returns-in-NewtypeVariant-clause-wrote t c =
    let f = c.args.format in
    let k = c.args.column in
    let held = c.deref-in-NewtypeVariant.result.now in
    let same : held ≡ c.in-NewtypeVariant.inner.value = search rules in
    wrote_as c.write_newtype_variant.result c.args.out.now c.write_newtype_variant.new.out
    (variant_written f k (k + 2) c.in-NewtypeVariant.variant (value_written f (k + 2) held)) (value_written f k c.args.value.now)
    (of_newtype_variant f k _ _ _ c.in-NewtypeVariant.variant c.in-NewtypeVariant.inner held c.in-NewtypeVariant.is same)
    c.write_newtype_variant.ensures.wrote

pub write_value-returns-in-NewtypeVariant-clause-within : goal.write_value-returns-in-NewtypeVariant-clause-within
write_value-returns-in-NewtypeVariant-clause-within t c =
    let held = c.deref-in-NewtypeVariant.result.now in
    let same : held ≡ c.in-NewtypeVariant.inner.value = search rules in
    within_newtype_variant c.write_newtype_variant.result c.args.value.now _ _ _ c.in-NewtypeVariant.inner held c.in-NewtypeVariant.is same c.write_newtype_variant.ensures.within

pub write_value-returns-in-TupleVariant-clause-wrote : goal.write_value-returns-in-TupleVariant-clause-wrote
write_value-returns-in-TupleVariant-clause-wrote t c =
    wrote_as c.write_tuple_variant.result c.args.out.now c.write_tuple_variant.new.out (variant_written c.args.format c.args.column (c.args.column + 2) c.in-TupleVariant.variant (item_list_written c.args.format (c.args.column + 2) c.as_slice-in-TupleVariant.result.now)) (value_written c.args.format c.args.column c.args.value.now)
    (of_tuple_variant c.args.format c.args.column _ _ _ c.in-TupleVariant.variant _ c.as_slice-in-TupleVariant.result.now c.in-TupleVariant.is c.as_slice-in-TupleVariant.ensures) c.write_tuple_variant.ensures.wrote

pub write_value-returns-in-TupleVariant-clause-within : goal.write_value-returns-in-TupleVariant-clause-within
write_value-returns-in-TupleVariant-clause-within t c =
    within_tuple_variant c.write_tuple_variant.result c.args.value.now _ _ _ _ c.as_slice-in-TupleVariant.result.now c.in-TupleVariant.is c.as_slice-in-TupleVariant.ensures c.write_tuple_variant.ensures.within

pub write_value-returns-in-StructVariant-clause-wrote : goal.write_value-returns-in-StructVariant-clause-wrote
write_value-returns-in-StructVariant-clause-wrote t c =
    wrote_as c.write_struct_variant.result c.args.out.now c.write_struct_variant.new.out (variant_written c.args.format c.args.column (c.args.column + 2) c.in-StructVariant.variant (field_list_written c.args.format (c.args.column + 2) c.as_slice-in-StructVariant.result.now)) (value_written c.args.format c.args.column c.args.value.now)
    (of_struct_variant c.args.format c.args.column _ _ _ c.in-StructVariant.variant _ c.as_slice-in-StructVariant.result.now c.in-StructVariant.is c.as_slice-in-StructVariant.ensures) c.write_struct_variant.ensures.wrote

pub write_value-returns-in-StructVariant-clause-within : goal.write_value-returns-in-StructVariant-clause-within
write_value-returns-in-StructVariant-clause-within t c =
    within_struct_variant c.write_struct_variant.result c.args.value.now _ _ _ _ c.as_slice-in-StructVariant.result.now c.in-StructVariant.is c.as_slice-in-StructVariant.ensures c.write_struct_variant.ensures.within
