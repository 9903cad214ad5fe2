use Rattle.snap_select.proofs.Prelude.{rules, answers_always, pair_cmp, pair_tree}
use Rattle.snap_select.proofs.ListsInOrder.{pair_total}
use Rattle.snap_select.proofs.StableSorts.{seen_before, seen_weak, one_outcome}
use Rattle.snap_select.proofs.in_order.sort_pairs.Goals as goal

pub returns : goal.returns
returns c =
    let weak = seen_weak pair_cmp pair_total pair_tree in
    let before = seen_before pair_cmp pair_tree in
    one_outcome pair_cmp pair_total pair_tree _ _ (c.in_ok-sort_by.ensures.sorted before weak (answers_always _ _ _ (λ f a r h k. search rules)))
    (c.in_ok-sort_by.ensures.stable before weak (answers_always _ _ _ (λ f a r h k. search rules)))
