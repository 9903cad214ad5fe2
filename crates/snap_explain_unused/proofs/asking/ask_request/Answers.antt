use Rattle.snap_explain_unused.proofs.Prelude.{session_of, words_of}
use Rattle.snap_explain_unused.proofs.AskedPaths.{begun, closed_ok, closed_err, closed_counted}
use Rattle.snap_explain_unused.proofs.asking.ask_request.Goals as goal

pub returns-in_ok-begin_duplicates-in-Begin-clause-asked : goal.returns-in_ok-begin_duplicates-in-Begin-clause-asked
returns-in_ok-begin_duplicates-in-Begin-clause-asked g c = rw c.in-Begin.is (begun (words_of c.args.runner.now) (session_of c.args.session.now) _ _ c.in_ok-begin_duplicates-in-Begin.ensures.ok)

pub returns-in-End-clause-asked : goal.returns-in-End-clause-asked
returns-in-End-clause-asked g c = rw c.in-End.is (closed_ok c.ask_end.result (words_of c.args.runner.now) (session_of c.args.session.now) (session_of c.ask_end.new.session) _ c.ask_end.ensures.closed)

pub returns-in-End-clause-stopped : goal.returns-in-End-clause-stopped
returns-in-End-clause-stopped g c = rw c.in-End.is (closed_err c.ask_end.result (words_of c.args.runner.now) (session_of c.args.session.now) c.ask_end.ensures.stray)

pub returns-in-End-clause-cause : goal.returns-in-End-clause-cause
returns-in-End-clause-cause g c = closed_counted c.ask_end.result (session_of c.args.session.now) _ c.ask_end.ensures.stray
