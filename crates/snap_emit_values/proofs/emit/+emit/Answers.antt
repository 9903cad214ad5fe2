use Rattle.snap_emit_values.proofs.Prelude.{◌≡◌, suc, refl, ◌+◌, ◌-◌, ◌<◌, ◌≤◌, [], ◌∷◌, ◌++◌, length, sym, ap, ◌∙◌, subst, arith, rules, on_ok_weaker, on_err_weaker, IsBegun, child_of, item_of, list_text, pair_of, dict_text, text_at, place, item_shapes, entry_shapes, node_shape, node_pair, IsShapeWithin, IsPairWithin}
use Rattle.snap_emit_values.specs.Shape.{shapes_of, shape_pairs_of}
use Rattle.snap_emit_values.proofs.Begun.{on_err, unmoved, begun_first, begun_as}
use Rattle.snap_emit_values.proofs.Sizes.{size, sizes, pair_sizes, both_sizes, size-at, pair_size-at}
use Rattle.snap_emit_values.proofs.Trees.{list_at, dict_at}
use Rattle.snap_emit_values.proofs.Walked.{lines_in, begun_piece, begun_end, begun_last, added_last, piece_more, list_lines, dict_lines, key_spelled, key_mark, key_colon, pair_key, pair_value}
use Rattle.snap_emit_values.proofs.Within.{shapes_within, pairs_within, all_more, all_last}
use Rattle.snap_emit_values.proofs.emit.+emit.Goals as goal

pub emit-returns-in-List-clause-ok : goal.emit-returns-in-List-clause-ok
emit-returns-in-List-clause-ok t c =
    let k = c.args.column in
    let w = place c.args.blocks in
    rw (list_at k w (item_shapes c.in-List.items) ∙ sym (ap (λ n. text_at k w (node_shape n)) c.in-List.is)) at c.emit_items.ensures.ok

pub emit-returns-in-List-clause-within : goal.emit-returns-in-List-clause-within
emit-returns-in-List-clause-within t c =
    on_ok_weaker c.emit_items.result
    (λ h. subst (λ n. IsShapeWithin (node_shape n)) (sym c.in-List.is) (shapes_within (item_shapes c.in-List.items) h)) c.emit_items.ensures.within

pub emit-returns-in-List-clause-err : goal.emit-returns-in-List-clause-err
emit-returns-in-List-clause-err t c =
    let k = c.args.column in
    let w = place c.args.blocks in
    rw (list_at k w (item_shapes c.in-List.items) ∙ sym (ap (λ n. text_at k w (node_shape n)) c.in-List.is)) at c.emit_items.ensures.err

pub emit-returns-in-Dict-clause-ok : goal.emit-returns-in-Dict-clause-ok
emit-returns-in-Dict-clause-ok t c =
    let k = c.args.column in
    let w = place c.args.blocks in
    rw (dict_at k w (entry_shapes c.in-Dict.entries) ∙ sym (ap (λ n. text_at k w (node_shape n)) c.in-Dict.is)) at c.emit_entries.ensures.ok

pub emit-returns-in-Dict-clause-within : goal.emit-returns-in-Dict-clause-within
emit-returns-in-Dict-clause-within t c =
    on_ok_weaker c.emit_entries.result
    (λ h. subst (λ n. IsShapeWithin (node_shape n)) (sym c.in-Dict.is) (pairs_within (entry_shapes c.in-Dict.entries) h)) c.emit_entries.ensures.within

pub emit-returns-in-Dict-clause-err : goal.emit-returns-in-Dict-clause-err
emit-returns-in-Dict-clause-err t c =
    let k = c.args.column in
    let w = place c.args.blocks in
    rw (dict_at k w (entry_shapes c.in-Dict.entries) ∙ sym (ap (λ n. text_at k w (node_shape n)) c.in-Dict.is)) at c.emit_entries.ensures.err

pub emit_item-returns-in_err-push_mark-clause-err : goal.emit_item-returns-in_err-push_mark-clause-err
emit_item-returns-in_err-push_mark-clause-err t c =
    let x = node_shape c.args.item in
    let h : IsBegun c.args.out.now c.push_mark.new.out (item_of c.args.column (place c.args.blocks) x) =
    begun_first c.args.out.now c.push_mark.new.out (45 ∷ 32 ∷ []) (child_of (c.args.column + 2) (place c.args.blocks) x) c.in_err-push_mark.ensures.err in
    on_err c.from_residual-in_err-push_mark.result _ h

pub emit_key-returns-in_err-push_spelled-clause-err : goal.emit_key-returns-in_err-push_spelled-clause-err
emit_key-returns-in_err-push_spelled-clause-err t c =
    on_err c.from_residual-in_err-push_spelled.result _
    (key_spelled c.args.column (place c.args.blocks) (node_shape c.args.key) c.args.is_one_line c.args.out.now c.push_spelled.new.out
    (sym c.is_simple_key.ensures ∙ c.if-is_simple_key.true) c.in_err-push_spelled.ensures.err)

pub emit_key-returns-then-is_simple_key-clause-err : goal.emit_key-returns-then-is_simple_key-clause-err
emit_key-returns-then-is_simple_key-clause-err t c =
    on_err_weaker c.push_colon.result
    (λ h. key_colon c.args.column c.in_ok-inner.inner (place c.args.blocks) (node_shape c.args.key) c.args.is_one_line c.args.out.now c.push_spelled.new.out
    c.push_colon.new.out (sym c.is_simple_key.ensures ∙ c.if-is_simple_key.true) c.in_ok-inner.ensures.ok c.in_ok-push_spelled.ensures.ok h)
    c.push_colon.ensures.err

pub emit_key-returns-in_err-push_mark-clause-err : goal.emit_key-returns-in_err-push_mark-clause-err
emit_key-returns-in_err-push_mark-clause-err t c =
    on_err c.from_residual-in_err-push_mark.result _
    (key_mark c.args.column (place c.args.blocks) (node_shape c.args.key) c.args.is_one_line c.args.out.now c.push_mark.new.out
    (sym c.is_simple_key.ensures ∙ c.if-is_simple_key.false) c.in_err-push_mark.ensures.err)

pub emit_pair-returns-in_err-inner-clause-err : goal.emit_pair-returns-in_err-inner-clause-err
emit_pair-returns-in_err-inner-clause-err t c =
    on_err c.from_residual.result _ (unmoved c.args.out.now c.args.out.now (pair_of c.args.column (place c.args.blocks) (node_pair c.args.pair)) refl)

pub emit_pair-returns-in_err-emit_key-clause-err : goal.emit_pair-returns-in_err-emit_key-clause-err
emit_pair-returns-in_err-emit_key-clause-err t c =
    on_err c.from_residual-in_err-emit_key.result _
    (pair_key c.args.column (place c.before_more.result) (place c.args.blocks) (node_shape c.args.pair.0) (node_shape c.args.pair.1) c.is_one_line.result
    c.args.out.now c.emit_key.new.out c.before_more.ensures c.is_one_line.ensures c.in_err-emit_key.ensures.err)

pub emit_pair-returns-clause-err : goal.emit_pair-returns-clause-err
emit_pair-returns-clause-err t c =
    on_err_weaker c.emit_child.result
    (λ h. pair_value c.args.column c.in_ok-inner.inner (place c.before_more.result) (place c.args.blocks) (node_shape c.args.pair.0) (node_shape c.args.pair.1)
    c.is_one_line.result c.args.out.now c.emit_key.new.out c.emit_child.new.out c.before_more.ensures c.is_one_line.ensures c.in_ok-inner.ensures.ok
    c.in_ok-emit_key.ensures.ok h)
    c.emit_child.ensures.err

pub emit_items-emit_item-requires : goal.emit_items-emit_item-requires
emit_items-emit_item-requires t c =
    let below : c.loop-index.index < length (item_shapes c.args.items) = omega (arith, c.loop-index-test.true, c.len-count.ensures) in
    let k : size (node_shape c.at.result) ≤ sizes (shapes_of (item_shapes c.args.items)) =
    size-at (item_shapes c.args.items) c.loop-index.index (node_shape c.at.result) below c.at.ensures in
    search rules

pub emit_items-emit_item-requires-2 : goal.emit_items-emit_item-requires-2
emit_items-emit_item-requires-2 t c =
    let below : c.len-count.result - 1 < length (item_shapes c.args.items) = omega (arith, c.if-count-eq0.false, c.len-count.ensures) in
    let k : size (node_shape c.at-2.result) ≤ sizes (shapes_of (item_shapes c.args.items)) =
    size-at (item_shapes c.args.items) (c.len-count.result - 1) (node_shape c.at-2.result) below c.at-2.ensures in
    search rules

pub emit_items-returns-in_err-emit_item-clause-err : goal.emit_items-returns-in_err-emit_item-clause-err
emit_items-returns-in_err-emit_item-clause-err t c =
    let k = c.args.column in
    let w = place c.args.blocks in
    let xs = item_shapes c.args.items in
    let below : suc c.loop-index.index < length xs = omega (arith, c.loop-index-test.true, c.len-count.ensures) in
    on_err c.from_residual.result _
    (begun_as c.args.out.now c.emit_item.new.out (lines_in k (item_of k) w xs) (list_text k w xs) (list_lines k w xs (suc c.loop-index.index) below)
    (begun_piece k (item_of k) (place c.before_more-inside.result) w xs c.loop-index.index (node_shape c.at.result) c.args.out.now c.loop-index.out c.emit_item.new.out
    c.before_more-inside.ensures c.loop-index.invariant.added below c.at.ensures c.in_err-emit_item.ensures.err))

pub emit_items-returns-in_err-break_line-clause-err : goal.emit_items-returns-in_err-break_line-clause-err
emit_items-returns-in_err-break_line-clause-err t c =
    let k = c.args.column in
    let w = place c.args.blocks in
    let xs = item_shapes c.args.items in
    let below : suc c.loop-index.index < length xs = omega (arith, c.loop-index-test.true, c.len-count.ensures) in
    on_err c.from_residual-in_err-break_line.result _
    (begun_as c.args.out.now c.break_line.new.out (lines_in k (item_of k) w xs) (list_text k w xs) (list_lines k w xs (suc c.loop-index.index) below)
    (begun_end k (item_of k) (place c.before_more-inside.result) w xs c.loop-index.index (node_shape c.at.result) c.args.out.now c.loop-index.out c.emit_item.new.out
    c.break_line.new.out c.before_more-inside.ensures c.loop-index.invariant.added below c.at.ensures c.in_ok-emit_item.ensures.ok c.in_err-break_line.ensures.err))

pub emit_items-loop-index-preserved : goal.emit_items-loop-index-preserved
emit_items-loop-index-preserved t c =
    let k = c.args.column in
    let w = place c.args.blocks in
    let xs = item_shapes c.args.items in
    let below : c.loop-index.index < length xs = omega (arith, c.loop-index-test.true, c.len-count.ensures) in
    record {
      added = piece_more k (item_of k) (place c.before_more-inside.result) w xs c.loop-index.index (node_shape c.at.result) c.args.out.now c.loop-index.out
          c.emit_item.new.out c.break_line.new.out c.before_more-inside.ensures c.loop-index.invariant.added c.in_ok-emit_item.ensures.ok
          c.in_ok-break_line.ensures.ok below c.at.ensures;
      within = all_more IsShapeWithin xs c.loop-index.index (node_shape c.at.result) below c.at.ensures c.loop-index.invariant.within c.in_ok-emit_item.ensures.within;
    }

pub emit_items-returns-clause-ok : goal.emit_items-returns-clause-ok
emit_items-returns-clause-ok t c =
    let k = c.args.column in
    let w = place c.args.blocks in
    let xs = item_shapes c.args.items in
    let n = c.len-count.result - 1 in
    let long : length xs ≡ suc (c.len-count.result - 1) = omega (arith, c.if-count-eq0.false, c.len-count.ensures) in
    let end : c.loop-index.index ≡ c.len-count.result - 1 = omega (arith, c.loop-index-test.false, c.loop-index.auto.index-end) in
    on_ok_weaker c.emit_item-2.result
    (λ h. added_last k (item_of k) w xs c.loop-index.index n (node_shape c.at-2.result) c.args.out.now c.loop-index.out c.emit_item-2.new.out
    c.loop-index.invariant.added end long c.at-2.ensures h
    ∙ ap (λ x. c.args.out.now ++ x) (list_lines k w xs n (omega (arith, long))))
    c.emit_item-2.ensures.ok

pub emit_items-returns-clause-within : goal.emit_items-returns-clause-within
emit_items-returns-clause-within t c =
    let xs = item_shapes c.args.items in
    let n = c.len-count.result - 1 in
    let long : length xs ≡ suc (c.len-count.result - 1) = omega (arith, c.if-count-eq0.false, c.len-count.ensures) in
    let end : c.loop-index.index ≡ c.len-count.result - 1 = omega (arith, c.loop-index-test.false, c.loop-index.auto.index-end) in
    on_ok_weaker c.emit_item-2.result
    (λ h. all_last IsShapeWithin xs c.loop-index.index n (node_shape c.at-2.result) end long c.at-2.ensures c.loop-index.invariant.within h) c.emit_item-2.ensures.within

pub emit_items-returns-clause-err : goal.emit_items-returns-clause-err
emit_items-returns-clause-err t c =
    let k = c.args.column in
    let w = place c.args.blocks in
    let xs = item_shapes c.args.items in
    let n = c.len-count.result - 1 in
    let long : length xs ≡ suc (c.len-count.result - 1) = omega (arith, c.if-count-eq0.false, c.len-count.ensures) in
    let end : c.loop-index.index ≡ c.len-count.result - 1 = omega (arith, c.loop-index-test.false, c.loop-index.auto.index-end) in
    on_err_weaker c.emit_item-2.result
    (λ h. begun_as c.args.out.now c.emit_item-2.new.out (lines_in k (item_of k) w xs) (list_text k w xs) (list_lines k w xs n (omega (arith, long)))
    (begun_last k (item_of k) w xs c.loop-index.index n (node_shape c.at-2.result) c.args.out.now c.loop-index.out c.emit_item-2.new.out
    c.loop-index.invariant.added end long c.at-2.ensures h))
    c.emit_item-2.ensures.err

pub emit_entries-emit_pair-requires : goal.emit_entries-emit_pair-requires
emit_entries-emit_pair-requires t c =
    let below : c.loop-index.index < length (entry_shapes c.args.entries) = omega (arith, c.loop-index-test.true, c.len-count.ensures) in
    let k : both_sizes (node_pair c.at.result) ≤ pair_sizes (shape_pairs_of (entry_shapes c.args.entries)) =
    pair_size-at (entry_shapes c.args.entries) c.loop-index.index (node_pair c.at.result) below c.at.ensures in
    search rules

pub emit_entries-emit_pair-requires-2 : goal.emit_entries-emit_pair-requires-2
emit_entries-emit_pair-requires-2 t c =
    let below : c.len-count.result - 1 < length (entry_shapes c.args.entries) = omega (arith, c.if-count-eq0.false, c.len-count.ensures) in
    let k : both_sizes (node_pair c.at-2.result) ≤ pair_sizes (shape_pairs_of (entry_shapes c.args.entries)) =
    pair_size-at (entry_shapes c.args.entries) (c.len-count.result - 1) (node_pair c.at-2.result) below c.at-2.ensures in
    search rules

pub emit_entries-returns-in_err-emit_pair-clause-err : goal.emit_entries-returns-in_err-emit_pair-clause-err
emit_entries-returns-in_err-emit_pair-clause-err t c =
    let k = c.args.column in
    let w = place c.args.blocks in
    let xs = entry_shapes c.args.entries in
    let below : suc c.loop-index.index < length xs = omega (arith, c.loop-index-test.true, c.len-count.ensures) in
    on_err c.from_residual.result _
    (begun_as c.args.out.now c.emit_pair.new.out (lines_in k (pair_of k) w xs) (dict_text k w xs) (dict_lines k w xs (suc c.loop-index.index) below)
    (begun_piece k (pair_of k) (place c.before_more-inside.result) w xs c.loop-index.index (node_pair c.at.result) c.args.out.now c.loop-index.out c.emit_pair.new.out
    c.before_more-inside.ensures c.loop-index.invariant.added below c.at.ensures c.in_err-emit_pair.ensures.err))

pub emit_entries-returns-in_err-break_line-clause-err : goal.emit_entries-returns-in_err-break_line-clause-err
emit_entries-returns-in_err-break_line-clause-err t c =
    let k = c.args.column in
    let w = place c.args.blocks in
    let xs = entry_shapes c.args.entries in
    let below : suc c.loop-index.index < length xs = omega (arith, c.loop-index-test.true, c.len-count.ensures) in
    on_err c.from_residual-in_err-break_line.result _
    (begun_as c.args.out.now c.break_line.new.out (lines_in k (pair_of k) w xs) (dict_text k w xs) (dict_lines k w xs (suc c.loop-index.index) below)
    (begun_end k (pair_of k) (place c.before_more-inside.result) w xs c.loop-index.index (node_pair c.at.result) c.args.out.now c.loop-index.out c.emit_pair.new.out
    c.break_line.new.out c.before_more-inside.ensures c.loop-index.invariant.added below c.at.ensures c.in_ok-emit_pair.ensures.ok c.in_err-break_line.ensures.err))

pub emit_entries-loop-index-preserved : goal.emit_entries-loop-index-preserved
emit_entries-loop-index-preserved t c =
    let k = c.args.column in
    let w = place c.args.blocks in
    let xs = entry_shapes c.args.entries in
    let below : c.loop-index.index < length xs = omega (arith, c.loop-index-test.true, c.len-count.ensures) in
    record {
      added = piece_more k (pair_of k) (place c.before_more-inside.result) w xs c.loop-index.index (node_pair c.at.result) c.args.out.now c.loop-index.out
          c.emit_pair.new.out c.break_line.new.out c.before_more-inside.ensures c.loop-index.invariant.added c.in_ok-emit_pair.ensures.ok
          c.in_ok-break_line.ensures.ok below c.at.ensures;
      within = all_more IsPairWithin xs c.loop-index.index (node_pair c.at.result) below c.at.ensures c.loop-index.invariant.within c.in_ok-emit_pair.ensures.within;
    }

pub emit_entries-returns-clause-ok : goal.emit_entries-returns-clause-ok
emit_entries-returns-clause-ok t c =
    let k = c.args.column in
    let w = place c.args.blocks in
    let xs = entry_shapes c.args.entries in
    let n = c.len-count.result - 1 in
    let long : length xs ≡ suc (c.len-count.result - 1) = omega (arith, c.if-count-eq0.false, c.len-count.ensures) in
    let end : c.loop-index.index ≡ c.len-count.result - 1 = omega (arith, c.loop-index-test.false, c.loop-index.auto.index-end) in
    on_ok_weaker c.emit_pair-2.result
    (λ h. added_last k (pair_of k) w xs c.loop-index.index n (node_pair c.at-2.result) c.args.out.now c.loop-index.out c.emit_pair-2.new.out
    c.loop-index.invariant.added end long c.at-2.ensures h
    ∙ ap (λ x. c.args.out.now ++ x) (dict_lines k w xs n (omega (arith, long))))
    c.emit_pair-2.ensures.ok

pub emit_entries-returns-clause-within : goal.emit_entries-returns-clause-within
emit_entries-returns-clause-within t c =
    let xs = entry_shapes c.args.entries in
    let n = c.len-count.result - 1 in
    let long : length xs ≡ suc (c.len-count.result - 1) = omega (arith, c.if-count-eq0.false, c.len-count.ensures) in
    let end : c.loop-index.index ≡ c.len-count.result - 1 = omega (arith, c.loop-index-test.false, c.loop-index.auto.index-end) in
    on_ok_weaker c.emit_pair-2.result
    (λ h. all_last IsPairWithin xs c.loop-index.index n (node_pair c.at-2.result) end long c.at-2.ensures c.loop-index.invariant.within h) c.emit_pair-2.ensures.within

pub emit_entries-returns-clause-err : goal.emit_entries-returns-clause-err
emit_entries-returns-clause-err t c =
    let k = c.args.column in
    let w = place c.args.blocks in
    let xs = entry_shapes c.args.entries in
    let n = c.len-count.result - 1 in
    let long : length xs ≡ suc (c.len-count.result - 1) = omega (arith, c.if-count-eq0.false, c.len-count.ensures) in
    let end : c.loop-index.index ≡ c.len-count.result - 1 = omega (arith, c.loop-index-test.false, c.loop-index.auto.index-end) in
    on_err_weaker c.emit_pair-2.result
    (λ h. begun_as c.args.out.now c.emit_pair-2.new.out (lines_in k (pair_of k) w xs) (dict_text k w xs) (dict_lines k w xs n (omega (arith, long)))
    (begun_last k (pair_of k) w xs c.loop-index.index n (node_pair c.at-2.result) c.args.out.now c.loop-index.out c.emit_pair-2.new.out
    c.loop-index.invariant.added end long c.at-2.ensures h))
    c.emit_pair-2.ensures.err
