use Rattle.snap_select.proofs.SortedTrees.{tree_is}
use Rattle.snap_select.proofs.laws.sorting_makes_the_sorted_tree.Goals as goal

pub returns : goal.returns
returns c = tree_is
