use Rattle.snap_front.proofs.Prelude.{◌≡◌, ◌≤◌, rules, chars, sym, ap, ◌∙◌, refl, length, position, tree, pair_trees, Map}
use Rattle.snap_front.proofs.Placed.{is_at, nil_of, not_nil}
use Rattle.snap_front.proofs.Taken.{pairs_removed, pair_taken, pairs_gone, items_removed, item_removed, items_gone, map_removed}
use Rattle.snap_content.specs.Tree as t
use Rattle.snap_content.proofs.Views.{tree-Map}
use Rattle.snap_front.proofs.removing.+removing.Goals as goal

pub remove_in_items-returns-then-at-len : goal.remove_in_items-returns-then-at-len
remove_in_items-returns-then-at-len t c =
    let large : length c.args.items.now.items ≤ c.args.place = search rules in (items_gone c.args.place c.args.rest.now c.args.items.now.items large, refl)

pub remove_in_items-returns-then-is_empty : goal.remove_in_items-returns-then-is_empty
remove_in_items-returns-then-is_empty t c =
    item_removed c.args.place c.args.rest.now c.args.items.now.items c.remove.new.self.items c.remove.result (nil_of c.args.rest.now (sym c.is_empty.ensures ∙ c.if-is_empty.true)) (search rules) c.remove.ensures.value
    c.remove.ensures.items

pub remove_in_items-returns : goal.remove_in_items-returns
remove_in_items-returns t c =
    items_removed c.args.place c.args.rest.now c.args.items.now.items c.index_mut.result.now c.remove_at.new.content c.remove_at.result (not_nil c.args.rest.now (sym c.is_empty.ensures ∙ c.if-is_empty.false)) (search rules)
    c.index_mut.ensures.value c.remove_at.ensures

pub remove_in_pairs-returns-in-Some : goal.remove_in_pairs-returns-in-Some
remove_in_pairs-returns-in-Some t c =
    pair_taken (chars c.args.name.now) c.args.rest.now c.args.pairs.now.items c.take_value.new.pairs.items c.in-Some.at (c.take_value.ensures.taken.0, c.take_value.result)
    (nil_of c.args.rest.now (sym c.is_empty.ensures ∙ c.if-is_empty.true))
    (sym (ap (position (is_at (chars c.args.name.now))) c.as_slice.ensures.value) ∙ sym c.key_at.ensures ∙ c.in-Some.is) c.take_value.ensures.taken.1 c.take_value.ensures.left

pub remove_in_pairs-returns-in-Some-2 : goal.remove_in_pairs-returns-in-Some-2
remove_in_pairs-returns-in-Some-2 t c =
    pairs_removed (chars c.args.name.now) c.args.rest.now c.args.pairs.now.items c.in-Some.at c.index_mut.result.now (c.index_mut.result.now.0, c.remove_at.new.content) c.remove_at.result
    (not_nil c.args.rest.now (sym c.is_empty.ensures ∙ c.if-is_empty.false))
    (sym (ap (position (is_at (chars c.args.name.now))) c.as_slice.ensures.value) ∙ sym c.key_at.ensures ∙ c.in-Some.is) c.index_mut.ensures.value refl c.remove_at.ensures

pub remove_in_pairs-returns-in-None : goal.remove_in_pairs-returns-in-None
remove_in_pairs-returns-in-None t c = (
  pairs_gone (chars c.args.name.now) c.args.rest.now c.args.pairs.now.items (sym (ap (position (is_at (chars c.args.name.now))) c.as_slice.ensures.value) ∙ sym c.key_at.ensures ∙ c.in-None.is),
  refl,
)

pub remove_under_key-returns-in-Map : goal.remove_under_key-returns-in-Map
remove_under_key-returns-in-Map n c =
    let from : tree c.args.whole ≡ t.map (pair_trees c.into_vec-pairs.result.items)
    = ap tree c.in-Map.is ∙ tree-Map c.in-Map.pairs ∙ ap (λ xs. t.map (pair_trees xs)) (sym c.into_vec-pairs.ensures) in
    let into : tree (Map c.from_vec.result) ≡ t.map (pair_trees c.remove_in_pairs-taken.new.pairs.items)
    = tree-Map c.from_vec.result ∙ ap (λ xs. t.map (pair_trees xs)) c.from_vec.ensures in
    map_removed (chars c.args.name.now) c.args.rest.now (tree c.args.whole) (tree (Map c.from_vec.result)) c.into_vec-pairs.result.items c.remove_in_pairs-taken.new.pairs.items c.remove_in_pairs-taken.result from into
    c.remove_in_pairs-taken.ensures
