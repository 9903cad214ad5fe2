use Rattle.snap_select.proofs.Prelude.{rules, answers_always, field_cmp, field_tree}
use Rattle.snap_select.proofs.ListsInOrder.{field_total}
use Rattle.snap_select.proofs.StableSorts.{seen_before, seen_weak, one_outcome}
use Rattle.snap_select.proofs.in_order.sort_fields.Goals as goal

pub returns : goal.returns
returns c =
    let weak = seen_weak field_cmp field_total field_tree in
    let before = seen_before field_cmp field_tree in
    one_outcome field_cmp field_total field_tree _ _ (c.in_ok-sort_by.ensures.sorted before weak (answers_always _ _ _ (λ f a r h k. search rules)))
    (c.in_ok-sort_by.ensures.stable before weak (answers_always _ _ _ (λ f a r h k. search rules)))
