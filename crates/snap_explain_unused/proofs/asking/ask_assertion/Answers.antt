use Rattle.snap_explain_unused.proofs.Prelude.{session_of, words_of}
use Rattle.snap_run_requests.specs.RequestOf.{assertion_of}
use Rattle.snap_explain_unused.proofs.AskedPaths.{previewed, stopped_by, stop_counted}
use Rattle.snap_explain_unused.proofs.asking.ask_assertion.Goals as goal

pub returns-in_ok-kept-in-Ok-clause-asked : goal.returns-in_ok-kept-in-Ok-clause-asked
returns-in_ok-kept-in-Ok-clause-asked g c =
    previewed (words_of c.args.runner.now) (assertion_of c.args.assertion) _ c.in-Ok.preview (g.F.Store.files c.args.store.now) (session_of c.args.session.now) _ _ _ c.in-Ok.ensures.previewed c.in_ok-kept-in-Ok.ensures

pub returns-in-Err-clause-stopped : goal.returns-in-Err-clause-stopped
returns-in-Err-clause-stopped g c = rw c.stop_of-stop.ensures (stopped_by c.in-Err.error (words_of c.args.runner.now) (assertion_of c.args.assertion) (session_of c.args.session.now) _ c.in-Err.ensures.stopped)

pub returns-in-Err-clause-cause : goal.returns-in-Err-clause-cause
returns-in-Err-clause-cause g c = rw c.stop_of-stop.ensures (stop_counted c.in-Err.error _ _ c.in-Err.ensures.cause)
