use Rattle.snap_select.proofs.OneRedacted.{one_redacted}
use Rattle.snap_select.proofs.laws.one_redacted_tree.Goals as goal

pub returns : goal.returns
returns c = one_redacted
