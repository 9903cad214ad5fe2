use Rattle.snap_content.proofs.OneOrder.{ascends_far}
use Rattle.snap_content.proofs.laws.entries_ascend.Goals as goal

pub returns-clause-same : goal.returns-clause-same
returns-clause-same c = λ old new order. order.same_entries

pub returns-clause-ascends : goal.returns-clause-ascends
returns-clause-ascends c = ascends_far
