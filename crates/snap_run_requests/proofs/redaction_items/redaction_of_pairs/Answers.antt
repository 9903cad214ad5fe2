use Rattle.snap_run_requests.proofs.Prelude.{refl, redaction_table}
use Rattle.snap_run_requests.proofs.redaction_items.redaction_of_pairs.Goals as goal

pub returns-in-Some : goal.returns-in-Some
returns-in-Some c = record { pairs = _; is = refl; holds = c.in-Some.ensures redaction_table refl }
