use Rattle.snap_run.proofs.Prelude.{◌≡◌, ◌+◌, ◌≤◌, [], length, documents, words_of, outside}
use Rattle.snap_assert.specs.Session.{session_of}
use Rattle.snap_run.proofs.Stepping.{IsRun, CoversNow}
use Rattle.snap_run.proofs.documents.run_documents.Given as goal

abbrev pub invariant-loop-rest : goal.invariant-loop-rest
invariant-loop-rest g l = record {
  run : IsRun (words_of l.runner) (documents l.input) l.rest l.document l.tally (session_of l.fn.session) (session_of l.session)
      (outside (g.F.Store.files l.fn.store) (g.K.Sink.written l.fn.sink)) (outside (g.F.Store.files l.store) (g.K.Sink.written l.sink));
  covered : CoversNow (g.F.Store.files l.fn.store) (g.F.Store.files l.store) l.listed;
  few : l.document + length l.rest ≤ length l.input;
  passed : l.tally.passed ≤ l.document;
  untouched : l.input ≡ [] → l.store ≡ l.fn.store;
  store_count : g.F.Store.faults l.store ≡ g.F.Store.faults l.fn.store;
  sink_count : g.K.Sink.faults l.sink ≡ g.K.Sink.faults l.fn.sink;
}

abbrev pub decreases-loop-rest : goal.decreases-loop-rest
decreases-loop-rest g l = length l.rest
