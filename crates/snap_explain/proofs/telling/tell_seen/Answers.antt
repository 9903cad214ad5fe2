use Rattle.snap_explain.proofs.Documents.{found_said}
use Rattle.snap_explain.proofs.Prelude.{None}
use Rattle.snap_assert.specs.Session.{session_of}
use Rattle.snap_run.specs.Runner.{words_of}
use Rattle.snap_run_requests.specs.RequestOf.{request_of}
use Rattle.snap_explain.specs.Asked.{known_by}
use Rattle.snap_explain.specs.Streams.{in_form}
use Rattle.snap_explain.proofs.telling.tell_seen.Goals as goal

pub returns-clause-said : goal.returns-clause-said
returns-clause-said g c = λ document w reads seen e.
    found_said c.trouble_of-found.result c.tell_found.result (in_form c.args.form (words_of c.args.runner.now)) (g.F.Store.files c.args.store.now) c.args.number document (known_by (session_of c.args.session.now) c.args.earlier.now)
    (known_by (session_of c.trouble_of-found.new.session) c.trouble_of-found.new.earlier) w (g.K.Sink.written c.tell_found.new.sink) (request_of c.args.request) (record { line = c.args.first; column = None }) c.args.remarks.now
    reads seen c.trouble_of-found.ensures.found c.trouble_of-found.ensures.unsaid (c.tell_found.ensures.said w e)

pub returns-clause-file : goal.returns-clause-file
returns-clause-file g c = c.tell_found.ensures.file (g.F.Store.faults c.args.store.now) (g.F.Store.faults c.trouble_of-found.new.store) c.trouble_of-found.ensures.cause
