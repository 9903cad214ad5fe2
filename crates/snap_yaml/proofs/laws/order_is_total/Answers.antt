use Rattle.snap_yaml.proofs.Prelude.{value_total}
use Rattle.snap_yaml.proofs.laws.order_is_total.Goals as goal

pub returns : goal.returns
returns c = value_total
