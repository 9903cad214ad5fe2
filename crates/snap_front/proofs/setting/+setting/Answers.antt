use Rattle.snap_front.proofs.Prelude.{◌≡◌, ◌<◌, ◌≤◌, rules, chars, sym, ap, ◌∙◌, refl, inl, inr, arith, length, position, tree, pair_trees, Map}
use Rattle.snap_front.proofs.Placed.{is_at, pairs_set, pairs_none, pair_pushed, items_set, items_none, item_pushed, nil_of, not_nil, map_set}
use Rattle.snap_content.specs.Tree as t
use Rattle.snap_content.proofs.Views.{tree-Map}
use Rattle.snap_front.proofs.setting.+setting.Goals as goal

pub set_in_pairs-returns-in-Some : goal.set_in_pairs-returns-in-Some
set_in_pairs-returns-in-Some t c =
    pairs_set (chars c.args.name.now) c.args.rest.now (tree c.args.value) c.args.pairs.now.items c.in-Some.at c.index_mut.result.now (c.index_mut.result.now.0, c.set_at.new.content) c.set_at.result
    (sym (ap (position (is_at (chars c.args.name.now))) c.as_slice.ensures.value) ∙ sym c.key_at.ensures ∙ c.in-Some.is) c.index_mut.ensures.value refl c.set_at.ensures

pub set_in_pairs-returns-in-None : goal.set_in_pairs-returns-in-None
set_in_pairs-returns-in-None t c =
    pair_pushed (chars c.args.name.now) c.args.rest.now c.args.pairs.now.items c.push_pair.new.pairs.items c.args.value c.push_pair.result
    (sym (ap (position (is_at (chars c.args.name.now))) c.as_slice.ensures.value) ∙ sym c.key_at.ensures ∙ c.in-None.is) (nil_of c.args.rest.now (sym c.is_empty.ensures ∙ c.if-is_empty.true))
    c.push_pair.ensures.ok c.push_pair.ensures.err

pub set_in_pairs-returns-in-None-2 : goal.set_in_pairs-returns-in-None-2
set_in_pairs-returns-in-None-2 t c = (
  pairs_none (chars c.args.name.now) c.args.rest.now (tree c.args.value) c.args.pairs.now.items
      (sym (ap (position (is_at (chars c.args.name.now))) c.as_slice.ensures.value) ∙ sym c.key_at.ensures ∙ c.in-None-2.is) (not_nil c.args.rest.now (sym c.is_empty.ensures ∙ c.if-is_empty.false)),
  refl,
)

pub set_in_items-returns-then-at-len : goal.set_in_items-returns-then-at-len
set_in_items-returns-then-at-len t c =
    items_set c.args.place c.args.rest.now (tree c.args.value) c.args.items.now.items c.index_mut.result.now c.set_at.new.content c.set_at.result (search rules) c.index_mut.ensures.value c.set_at.ensures

pub set_in_items-returns-then-len-at : goal.set_in_items-returns-then-len-at
set_in_items-returns-then-len-at t c =
    let beyond : length c.args.items.now.items < c.args.place = search rules in
    let large : length c.args.items.now.items ≤ c.args.place = omega (arith, beyond) in
    (items_none c.args.place c.args.rest.now (tree c.args.value) c.args.items.now.items large (inl beyond), refl)

pub set_in_items-returns-then-not-is_empty : goal.set_in_items-returns-then-not-is_empty
set_in_items-returns-then-not-is_empty t c =
    let large : length c.args.items.now.items ≤ c.args.place = search rules in
    (items_none c.args.place c.args.rest.now (tree c.args.value) c.args.items.now.items large (inr (not_nil c.args.rest.now (sym c.is_empty.ensures ∙ c.if-not-is_empty.true))), refl)

pub set_in_items-returns : goal.set_in_items-returns
set_in_items-returns t c =
    let is : c.args.place ≡ length c.args.items.now.items = search rules in
    item_pushed c.args.place c.args.rest.now c.args.items.now.items c.push_item.new.items.items c.args.value c.push_item.result is (nil_of c.args.rest.now (sym c.is_empty.ensures ∙ c.if-not-is_empty.false)) c.push_item.ensures.ok c.push_item.ensures.err

pub set_under_key-returns-in-Map : goal.set_under_key-returns-in-Map
set_under_key-returns-in-Map n c =
    let from : tree c.args.whole ≡ t.map (pair_trees c.into_vec-pairs.result.items)
    = ap tree c.in-Map.is ∙ tree-Map c.in-Map.pairs ∙ ap (λ xs. t.map (pair_trees xs)) (sym c.into_vec-pairs.ensures) in
    let into : tree (Map c.from_vec.result) ≡ t.map (pair_trees c.set_in_pairs-done.new.pairs.items)
    = tree-Map c.from_vec.result ∙ ap (λ xs. t.map (pair_trees xs)) c.from_vec.ensures in
    map_set (chars c.args.name.now) c.args.rest.now (tree c.args.value) (tree c.args.whole) (tree (Map c.from_vec.result)) c.into_vec-pairs.result.items c.set_in_pairs-done.new.pairs.items c.set_in_pairs-done.result from into
    c.set_in_pairs-done.ensures
