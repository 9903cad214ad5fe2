use Rattle.snap_explain_unused.proofs.Prelude.{◌∙◌, ap, inl, Err, session_of, words_of}
use Rattle.std.proofs.lemmas.Result.{on_ok_weaker}
use Rattle.snap_run_requests.specs.RequestOf.{request_of}
use Rattle.snap_explain_unused.proofs.AskedPaths.{of_file, asks_one, stops_all_one}
use Rattle.snap_explain_unused.proofs.asking.ask_document.Goals as goal

pub ask_request-requires : goal.ask_request-requires
ask_request-requires g c = of_file c.args.document.now _ c.in-Ok.ensures.ok

pub returns-in-Ok-clause-asked : goal.returns-in-Ok-clause-asked
returns-in-Ok-clause-asked g c = on_ok_weaker c.ask_request.result (λ asks. asks_one (words_of c.args.runner.now) c.args.document.now (request_of c.in-Ok.request) _ _ _ _ c.in-Ok.ensures.ok asks) c.ask_request.ensures.asked

pub returns-in-Ok-clause-stopped : goal.returns-in-Ok-clause-stopped
returns-in-Ok-clause-stopped g c = stops_all_one c.ask_request.result (words_of c.args.runner.now) c.args.document.now (request_of c.in-Ok.request) (session_of c.args.session.now) c.in-Ok.ensures.ok c.ask_request.ensures.stopped

pub returns-in-Err-NoRequest-clause-stopped : goal.returns-in-Err-NoRequest-clause-stopped
returns-in-Err-NoRequest-clause-stopped g c =
    inl (record { why = c.in-Err-NoRequest.field-0-0; holds = rw c.in-Err-NoRequest.field-0-is at c.in-Err-NoRequest.ensures.cause; unspelled = c.read_request.ensures.refused c.in-Err-NoRequest.field-0-0 (c.in-Err-NoRequest.is ∙ ap Err c.in-Err-NoRequest.field-0-is) })
