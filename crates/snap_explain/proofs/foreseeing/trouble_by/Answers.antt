use Rattle.std.specs.Prelude.{IfOk}
use Rattle.snap_assert.specs.Session.{session_of}
use Rattle.snap_run.specs.Runner.{words_of}
use Rattle.snap_run_requests.specs.RequestOf.{assertion_of}
use Rattle.snap_explain.specs.Asked.{known_by, seen_of}
use Rattle.snap_explain.proofs.Foretold.{IsFound, found_in_preview, stopped}
use Rattle.snap_explain.proofs.Prelude.{subst}
use Rattle.snap_explain.proofs.foreseeing.trouble_by.Goals as goal

pub returns-in-Ok-clause-found : goal.returns-in-Ok-clause-found
returns-in-Ok-clause-found g c =
    found_in_preview c.trouble_in-found.result (words_of c.args.runner.now) c.args.number (assertion_of c.args.assertion) c.in-Ok.preview (g.F.Store.files c.args.store.now)
    (known_by (session_of c.args.session.now) c.args.earlier.now) (known_by (session_of c.preview_assertion.new.session) c.trouble_in-found.new.earlier) c.in-Ok.ensures.previewed c.trouble_in-found.ensures.seen
    (subst (λ files. IfOk c.trouble_in-found.result (λ found. IsFound c.args.runner.now.workspace (seen_of c.args.earlier.now) c.in-Ok.preview files found))
    c.in-Ok.ensures.same c.trouble_in-found.ensures.found)

pub returns-in-Err-clause-found : goal.returns-in-Err-clause-found
returns-in-Err-clause-found g c =
    stopped c.refused.result c.in-Err.error (words_of c.args.runner.now) c.args.number (assertion_of c.args.assertion) (g.F.Store.files c.args.store.now)
    (known_by (session_of c.args.session.now) c.args.earlier.now) (known_by (session_of c.preview_assertion.new.session) c.refused.new.earlier) c.in-Err.ensures.stopped c.refused.ensures.seen c.refused.ensures.is

pub returns-in-Err-clause-cause : goal.returns-in-Err-clause-cause
returns-in-Err-clause-cause g c = c.refused.ensures.cause _ _ c.in-Err.ensures.cause
