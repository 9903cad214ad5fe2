use Rattle.snap_explain_unused.proofs.Prelude.{◌≡◌, length, session_of, words_of}
use Rattle.snap_explain_unused.proofs.AskedPaths.{AskedSoFar}
use Rattle.snap_explain_unused.proofs.asking.ask_documents.Given as goal

abbrev pub invariant-loop-rest : goal.invariant-loop-rest
invariant-loop-rest g l = record {
  so_far : AskedSoFar (words_of l.runner) l.input l.rest (session_of l.session) l.asked.keys;
  count : g.F.Store.faults l.store ≡ g.F.Store.faults l.fn.store;
  files : g.F.Store.files l.store ≡ g.F.Store.files l.fn.store;
}

abbrev pub decreases-loop-rest : goal.decreases-loop-rest
decreases-loop-rest g l = length l.rest
