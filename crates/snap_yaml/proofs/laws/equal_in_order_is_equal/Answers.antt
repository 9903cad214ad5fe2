use Rattle.snap_yaml.proofs.Prelude.{ap, ◌∙◌, tied_itself, value_cmp, value_total}
use Rattle.snap_yaml.proofs.SameValues.{same_value}
use Rattle.snap_yaml.proofs.laws.equal_in_order_is_equal.Goals as goal

pub returns : goal.returns
returns c a b = (same_value a b, λ is. ap (λ x. value_cmp x b) is ∙ tied_itself value_total b)
