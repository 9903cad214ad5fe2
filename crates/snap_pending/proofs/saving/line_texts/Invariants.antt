use Rattle.snap_pending.proofs.Prelude.{◌≡◌, false, take, map, list_any, pending_of, is_refused, record_line}
use Rattle.snap_pending.proofs.saving.line_texts.Given as goal

abbrev pub invariant-loop-pending : goal.invariant-loop-pending
invariant-loop-pending l = record {
  printed : l.lines.items ≡ map (λ pending. record_line (pending_of pending)) (take l.pending-index l.batch);
  accepted : list_any (λ pending. is_refused (pending_of pending)) (take l.pending-index l.batch) ≡ false;
}
