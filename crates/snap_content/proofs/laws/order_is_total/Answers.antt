use Rattle.snap_content.proofs.Prelude.{tree_total}
use Rattle.snap_content.proofs.laws.order_is_total.Goals as goal

pub returns : goal.returns
returns c = tree_total
