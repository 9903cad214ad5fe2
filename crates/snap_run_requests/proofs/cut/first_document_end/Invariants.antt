use Rattle.snap_run_requests.proofs.Prelude.{◌≡◌, ◌≤◌, length, drop}
use Rattle.snap_run_requests.proofs.Cutting.{IsWithin}
use Rattle.snap_run_requests.proofs.cut.first_document_end.Given as goal

-- no document ends so far, and the rest stands after it
abbrev pub invariant-loop-at : goal.invariant-loop-at
invariant-loop-at l = record {
  within : IsWithin l.bytes l.end;
  bound : l.end ≤ length l.bytes;
  behind : l.rest ≡ drop l.end l.bytes;
}

abbrev pub decreases-loop-at : goal.decreases-loop-at
decreases-loop-at l = length l.rest
