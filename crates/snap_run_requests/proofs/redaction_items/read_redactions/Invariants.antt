use Rattle.snap_run_requests.proofs.RedactionsRead.{AreSoFar}
use Rattle.snap_run_requests.proofs.redaction_items.read_redactions.Given as goal

abbrev pub invariant-loop-place : goal.invariant-loop-place
invariant-loop-place l = AreSoFar l.items l.place l.redactions.items
