use Rattle.snap_explain_values.proofs.SameTrees.{equal_of_same, same_of_equal}
use Rattle.snap_explain_values.proofs.laws.same_trees_are_equal.Goals as goal

pub returns : goal.returns
returns c a b = (equal_of_same a b, same_of_equal a b)
