use Rattle.snap_explain_values.proofs.Hits.{unhit_stays}
use Rattle.snap_explain_values.proofs.laws.what_hits_nothing_changes_nothing.Goals as goal

pub returns : goal.returns
returns c = unhit_stays
