use Rattle.snap_explain.proofs.Prelude.{ap}
use Rattle.snap_assert.specs.Session.{session_of}
use Rattle.snap_run.specs.Runner.{words_of}
use Rattle.snap_run_requests.specs.RequestOf.{request_of}
use Rattle.snap_explain.specs.Asked.{known_by}
use Rattle.snap_explain.proofs.Foretold.{begun, ended}
use Rattle.snap_explain.proofs.foreseeing.trouble_of.Goals as goal

pub returns-in-Begin-clause-found : goal.returns-in-Begin-clause-found
returns-in-Begin-clause-found g c =
    begun c.begin_block.result (words_of c.args.runner.now) (g.F.Store.files c.args.store.now) c.args.number (known_by (session_of c.args.session.now) c.args.earlier.now)
    (known_by (session_of c.begin_block.new.session) c.begin_block.new.earlier) (request_of c.args.request) (ap request_of c.in-Begin.is) c.begin_block.ensures.ok c.begin_block.ensures.seen

pub returns-in-End-clause-found : goal.returns-in-End-clause-found
returns-in-End-clause-found g c =
    ended c.end_block.result (words_of c.args.runner.now) (g.F.Store.files c.args.store.now) c.args.number (known_by (session_of c.args.session.now) c.args.earlier.now)
    (known_by (session_of c.end_block.new.session) c.end_block.new.earlier) (request_of c.args.request) (ap request_of c.in-End.is) c.end_block.ensures
