use Rattle.snap_content.proofs.Prelude.{ap, ◌∙◌, tied_itself, tree_cmp, tree_total}
use Rattle.snap_content.proofs.SameTrees.{same_tree}
use Rattle.snap_content.proofs.laws.equal_in_order_is_equal.Goals as goal

pub returns : goal.returns
returns c a b = (same_tree a b, λ is. ap (λ x. tree_cmp x b) is ∙ tied_itself tree_total b)
