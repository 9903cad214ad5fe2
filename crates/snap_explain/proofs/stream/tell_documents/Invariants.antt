use Rattle.snap_explain.proofs.Prelude.{◌≡◌, ◌+◌, ◌≤◌, ℕ, List, Some, length}
use Rattle.snap_assert.specs.Session.{session_of}
use Rattle.snap_run.specs.Runner.{words_of}
use Rattle.snap_explain.specs.Asked.{known_by}
use Rattle.snap_explain.specs.Streams.{in_form}
use Rattle.snap_explain.proofs.Documents.{ToldSoFar}
use Rattle.snap_explain.proofs.stream.tell_documents.Given as goal

abbrev pub invariant-loop-rest : goal.invariant-loop-rest
invariant-loop-rest g l = record {
  so_far : (w : List ℕ) → g.K.Sink.written l.fn.sink ≡ Some w → ToldSoFar (in_form l.form (words_of l.runner)) (g.F.Store.files l.fn.store) l.input w l.rest (g.K.Sink.written l.sink) l.number (known_by (session_of l.session) l.earlier) l.found;
  few : l.number + length l.rest ≤ length l.input;
  sink_count : g.K.Sink.faults l.sink ≡ g.K.Sink.faults l.fn.sink;
  store_count : g.F.Store.faults l.store ≡ g.F.Store.faults l.fn.store;
  files : g.F.Store.files l.store ≡ g.F.Store.files l.fn.store;
}

abbrev pub decreases-loop-rest : goal.decreases-loop-rest
decreases-loop-rest g l = length l.rest
