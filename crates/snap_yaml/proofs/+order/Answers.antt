use Rattle.snap_yaml.proofs.Prelude.{sym, ◌∙◌}
use Rattle.std.proofs.lemmas.List.{drop_all}
use Rattle.snap_yaml.proofs.Ordered.{values_end, pairs_end}
use Rattle.snap_yaml.proofs.+order.Goals as goal

pub order::compare_arrays-returns-else-is_empty : goal.order::compare_arrays-returns-else-is_empty
order::compare_arrays-returns-else-is_empty t c =
    values_end _ _ _ (drop_all _ _ c.loop-item-test.false) (sym c.is_empty.ensures ∙ c.if-is_empty.false) c.loop-item.invariant

pub order::compare_hashes-returns-else-is_empty : goal.order::compare_hashes-returns-else-is_empty
order::compare_hashes-returns-else-is_empty t c =
    pairs_end _ _ _ (drop_all _ _ c.loop-key-test.false) (sym c.is_empty.ensures ∙ c.if-is_empty.false) c.loop-key.invariant
