use Rattle.snap_content.proofs.Prelude.{key_total}
use Rattle.snap_content.proofs.laws.key_order_is_total.Goals as goal

pub returns : goal.returns
returns c = key_total
