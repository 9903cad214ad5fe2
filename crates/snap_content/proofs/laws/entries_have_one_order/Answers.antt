use Rattle.snap_content.proofs.OneOrder.{one_order}
use Rattle.snap_content.proofs.laws.entries_have_one_order.Goals as goal

pub returns : goal.returns
returns c = one_order
