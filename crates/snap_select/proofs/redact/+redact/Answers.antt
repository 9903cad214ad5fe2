use Rattle.snap_select.proofs.Prelude.{opens, under_key, to_item, get_or, rules, ◌≡◌, ◌≤◌, ◌+◌, map, ap, sym, ◌∙◌, refl, arith, length, length-set, count, count_items, count_pairs, count_fields, tree, item_trees, pair_trees, field_trees, left_turn, count_left, count_pairs_left, count_fields_left, step_of, into_field, path_match, reaches, parts_of, codes, false}
use Rattle.snap_select.proofs.Reached.{stays, closed_stays}
use Rattle.snap_select.proofs.RedactedLists.{items_turn, items_end, pairs_turn, pairs_end, fields_turn, fields_end}
use Rattle.snap_select.proofs.redact.+redact.Goals as goal

pub redact_at-returns-then-not-reaches-clause-ok : goal.redact_at-returns-then-not-reaches-clause-ok
redact_at-returns-then-not-reaches-clause-ok g t c =
    stays (parts_of c.args.selector.now) (g.P.Put.puts c.args.put.now) (map step_of c.args.path.now.items) (tree c.args.value.now)
    (ap (λ p. path_match (parts_of c.args.selector.now) (map step_of p)) (sym c.as_slice.ensures.value) ∙ sym c.is_match.ensures ∙ c.if-is_match.false)
    (ap (λ p. reaches (parts_of c.args.selector.now) (map step_of p)) (sym c.as_slice-2.ensures.value) ∙ sym c.reaches.ensures ∙ c.if-not-reaches.true)

-- where a step isn't open after the path, the tree there stays
pub redact_item-returns-then-not-opens-clause-ok : goal.redact_item-returns-then-not-opens-clause-ok
redact_item-returns-then-not-opens-clause-ok g t c =
    let e : c.len.result ≡ length c.args.path.now.items = search rules in
    closed_stays (parts_of c.args.selector.now) (g.P.Put.puts c.args.put.now) c.args.path.now.items (to_item c.args.place c.args.length) (tree c.args.item.now) c.len.result e
    (ap (λ s. opens (parts_of c.args.selector.now) c.len.result s) (sym c.lent_item.ensures) ∙ sym c.opens.ensures ∙ c.if-not-opens.true)

pub redact_named-returns-then-not-opens-clause-value : goal.redact_named-returns-then-not-opens-clause-value
redact_named-returns-then-not-opens-clause-value g t c =
    let e : c.len.result ≡ length c.args.path.now.items = search rules in
    closed_stays (parts_of c.args.selector.now) (g.P.Put.puts c.args.put.now) c.args.path.now.items (into_field c.args.name.now) (tree c.args.value.now) c.len.result e
    (ap (λ n. opens (parts_of c.args.selector.now) c.len.result (into_field n)) (sym c.as_str.ensures) ∙ sym c.opens.ensures ∙ c.if-not-opens.true)

pub redact_value-returns-then-not-opens-clause-value : goal.redact_value-returns-then-not-opens-clause-value
redact_value-returns-then-not-opens-clause-value g t c =
    let e : c.len.result ≡ length c.args.path.now.items = search rules in
    closed_stays (parts_of c.args.selector.now) (g.P.Put.puts c.args.put.now) c.args.path.now.items (under_key (tree c.args.pair.now.0)) (tree c.args.pair.now.1) c.len.result e
    (sym c.opens.ensures ∙ c.if-not-opens.true)

pub redact_items-redact_item-requires : goal.redact_items-redact_item-requires
redact_items-redact_item-requires g t c κs within =
    let k : count (tree (get_or c.loop-index.items c.loop-index.index c.index-items-index.result)) ≤ count_items (item_trees c.args.items.now)
    = count_left c.args.items.now c.loop-index.items c.loop-index.index _ c.loop-index.invariant.left (omega (arith, c.loop-index.invariant.same_length)) (ap (λ r. get_or c.loop-index.items c.loop-index.index r) c.index-items-index.is) in search rules

pub redact_items-loop-index-preserved : goal.redact_items-loop-index-preserved
redact_items-loop-index-preserved g t c = record {
  path = c.in_ok-redact_item.ensures.path ∙ c.loop-index.invariant.path;
  left = left_turn _ c.loop-index.items c.loop-index.index c.redact_item.new.item c.loop-index.invariant.left;
  same_length = length-set c.loop-index.items c.loop-index.index c.redact_item.new.item ∙ c.loop-index.invariant.same_length;
  so_far = items_turn (parts_of c.args.selector.now) (g.P.Put.puts c.args.put.now) _ _ c.args.items.now c.loop-index.items c.loop-index.index _ _
      c.redact_item.new.item c.loop-index.invariant.so_far c.loop-index.invariant.path refl (omega (arith, c.loop-index.invariant.same_length))
      (ap (λ r. get_or c.loop-index.items c.loop-index.index r) c.index-items-index.is) c.in_ok-redact_item.ensures.ok;
}

pub redact_items-returns-clause-ok : goal.redact_items-returns-clause-ok
redact_items-returns-clause-ok g t c =
    items_end (parts_of c.args.selector.now) (g.P.Put.puts c.args.put.now) _ c.args.items.now c.loop-index.items c.loop-index.index c.loop-index.invariant.so_far (omega (arith, c.loop-index.invariant.same_length))

pub redact_pairs-loop-index-init : goal.redact_pairs-loop-index-init
redact_pairs-loop-index-init g t c = record {
  path = refl;
  name = c.in_ok-name.ensures;
  keys = λ shut. (
      let e : c.len.result ≡ length c.args.path.now.items = search rules in
      ap (λ n. opens (parts_of c.args.selector.now) n (into_field (codes "$key"))) (sym e)
      ∙ ap (λ n. opens (parts_of c.args.selector.now) c.len.result (into_field n)) (sym (c.as_str.ensures ∙ c.in_ok-name.ensures)) ∙ sym c.opens-keys.ensures ∙ shut);
  left = refl;
  same_length = refl;
  so_far = λ rest done. done;
}

pub redact_pairs-redact_pair-requires : goal.redact_pairs-redact_pair-requires
redact_pairs-redact_pair-requires g t c κs within =
    let keys : c.opens-keys.result ≡ false → opens (parts_of c.args.selector.now) (length c.loop-index.path.items) (into_field c.loop-index.name) ≡ false
    = (λ shut. rw (c.loop-index.invariant.path, c.loop-index.invariant.name) (c.loop-index.invariant.keys shut)) in
    let x = get_or c.loop-index.pairs c.loop-index.index c.index-pairs-index.result in
    let k : count (tree x.0) + count (tree x.1) ≤ count_pairs (pair_trees c.args.pairs.now)
    = count_pairs_left c.args.pairs.now c.loop-index.pairs c.loop-index.index _ c.loop-index.invariant.left (omega (arith, c.loop-index.invariant.same_length)) (ap (λ r. get_or c.loop-index.pairs c.loop-index.index r) c.index-pairs-index.is) in search rules

pub redact_pairs-loop-index-preserved : goal.redact_pairs-loop-index-preserved
redact_pairs-loop-index-preserved g t c = record {
  path = c.in_ok-redact_pair.ensures.path ∙ c.loop-index.invariant.path;
  name = c.in_ok-redact_pair.ensures.name ∙ c.loop-index.invariant.name;
  keys = c.loop-index.invariant.keys;
  left = left_turn _ c.loop-index.pairs c.loop-index.index c.redact_pair.new.pair c.loop-index.invariant.left;
  same_length = length-set c.loop-index.pairs c.loop-index.index c.redact_pair.new.pair ∙ c.loop-index.invariant.same_length;
  so_far = pairs_turn (parts_of c.args.selector.now) (g.P.Put.puts c.args.put.now) _ _ c.args.pairs.now c.loop-index.pairs c.loop-index.index _ c.redact_pair.new.pair _
      c.loop-index.invariant.so_far c.loop-index.invariant.path c.loop-index.invariant.name (omega (arith, c.loop-index.invariant.same_length))
      (ap (λ r. get_or c.loop-index.pairs c.loop-index.index r) c.index-pairs-index.is) c.in_ok-redact_pair.ensures.key c.in_ok-redact_pair.ensures.value;
}

pub redact_pairs-returns-clause-ok : goal.redact_pairs-returns-clause-ok
redact_pairs-returns-clause-ok g t c =
    pairs_end (parts_of c.args.selector.now) (g.P.Put.puts c.args.put.now) _ c.args.pairs.now c.loop-index.pairs c.loop-index.index c.loop-index.invariant.so_far (omega (arith, c.loop-index.invariant.same_length))

pub redact_fields-redact_field-requires : goal.redact_fields-redact_field-requires
redact_fields-redact_field-requires g t c κs within =
    let x = get_or c.loop-index.fields c.loop-index.index c.index-fields-index.result in
    let k : count (tree x.1) ≤ count_fields (field_trees c.args.fields.now)
    = count_fields_left c.args.fields.now c.loop-index.fields c.loop-index.index _ c.loop-index.invariant.left (omega (arith, c.loop-index.invariant.same_length)) (ap (λ r. get_or c.loop-index.fields c.loop-index.index r) c.index-fields-index.is) in search rules

pub redact_fields-loop-index-preserved : goal.redact_fields-loop-index-preserved
redact_fields-loop-index-preserved g t c = record {
  path = c.in_ok-redact_field.ensures.path ∙ c.loop-index.invariant.path;
  left = left_turn _ c.loop-index.fields c.loop-index.index c.redact_field.new.field c.loop-index.invariant.left;
  same_length = length-set c.loop-index.fields c.loop-index.index c.redact_field.new.field ∙ c.loop-index.invariant.same_length;
  so_far = fields_turn (parts_of c.args.selector.now) (g.P.Put.puts c.args.put.now) _ _ c.args.fields.now c.loop-index.fields c.loop-index.index _ c.redact_field.new.field
      c.loop-index.invariant.so_far c.loop-index.invariant.path (omega (arith, c.loop-index.invariant.same_length))
      (ap (λ r. get_or c.loop-index.fields c.loop-index.index r) c.index-fields-index.is) c.in_ok-redact_field.ensures.name c.in_ok-redact_field.ensures.value;
}

pub redact_fields-returns-clause-ok : goal.redact_fields-returns-clause-ok
redact_fields-returns-clause-ok g t c =
    fields_end (parts_of c.args.selector.now) (g.P.Put.puts c.args.put.now) _ c.args.fields.now c.loop-index.fields c.loop-index.index c.loop-index.invariant.so_far (omega (arith, c.loop-index.invariant.same_length))

pub redact_pair-returns-then-not-keys-clause-key : goal.redact_pair-returns-then-not-keys-clause-key
redact_pair-returns-then-not-keys-clause-key g t c =
    rw c.in_ok-redact_value.ensures.key
    (closed_stays (parts_of c.args.selector.now) (g.P.Put.puts c.args.put.now) c.args.path.now.items (into_field c.args.name.now) (tree c.args.pair.now.0) (length c.args.path.now.items) refl
    (c.requires.keys c.if-not-keys.true))
