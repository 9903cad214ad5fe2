use Rattle.snap_run_requests.proofs.Prelude.{◌≡◌, true}
use Rattle.snap_run_requests.proofs.Keys.{are_so}
use Rattle.snap_run_requests.proofs.pairs.unknown_place.Given as goal

abbrev pub invariant-loop-place : goal.invariant-loop-place
invariant-loop-place l = are_so l.keys l.pairs l.place ≡ true
