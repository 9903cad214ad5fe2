use Rattle.snap_select.proofs.Prelude.{rules, answers_always, tree_cmp, tree, tree_total}
use Rattle.snap_select.proofs.StableSorts.{seen_before, seen_weak, one_outcome}
use Rattle.snap_select.proofs.in_order.sort_items.Goals as goal

pub returns : goal.returns
returns c =
    let weak = seen_weak tree_cmp tree_total tree in
    let before = seen_before tree_cmp tree in
    one_outcome tree_cmp tree_total tree _ _ (c.in_ok-sort_by.ensures.sorted before weak (answers_always _ _ _ (λ f a r h k. search rules)))
    (c.in_ok-sort_by.ensures.stable before weak (answers_always _ _ _ (λ f a r h k. search rules)))
