use Rattle.snap_select.proofs.Prelude.{tree_cmp, tree_total, pair_cmp, field_cmp}
use Rattle.snap_select.proofs.ListsInOrder.{pair_total, field_total}
use Rattle.snap_select.proofs.StableSorts.{one_order}
use Rattle.snap_select.proofs.laws.stable_sorts_make_the_list_in_order.Goals as goal

pub returns-clause-trees : goal.returns-clause-trees
returns-clause-trees c old new h = one_order tree_cmp tree_total old new h.ascends h.keeps_ties

pub returns-clause-pairs : goal.returns-clause-pairs
returns-clause-pairs c old new h = one_order pair_cmp pair_total old new h.ascends h.keeps_ties

pub returns-clause-fields : goal.returns-clause-fields
returns-clause-fields c old new h = one_order field_cmp field_total old new h.ascends h.keeps_ties
