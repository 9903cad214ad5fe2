use Rattle.snap_run.proofs.Prelude.{inl, ap, ◌∙◌, subst, Err, ReadsAs, words_of}
use Rattle.std.proofs.lemmas.Result.{IfOk-weaker, err_from_is_err_and}
use Rattle.snap_run_requests.specs.RequestOf.{request_of}
use Rattle.snap_run.proofs.DocumentEnds.{unread_stops, block_begins, block_ends, none_ends, memory_stops, err_weaker, stays_same, on_ok}
use Rattle.snap_run.proofs.documents.run_document.Goals as goal

pub returns-in_err-assertion-clause-err : goal.returns-in_err-assertion-clause-err
returns-in_err-assertion-clause-err g c =
    let told = err_from_is_err_and c.from_residual.result c.from_residual.ensures.1 in
    rw (told.1, told.2) (λ known held. inl (unread_stops (words_of c.args.runner.now) c.args.document.now _ _ _ c.in_err-assertion.field-0.0 (λ why is.
    c.read_request.ensures.refused why (c.in_err-assertion.was ∙ ap Err is))))

pub run_assertion-requires : goal.run_assertion-requires
run_assertion-requires g c =
    (subst (λ r. ReadsAs c.args.document.now (request_of r)) c.in-Assertion.is c.in_ok-assertion.ensures.ok).request_is.of_file

pub returns-in-Assertion-clause-ok : goal.returns-in-Assertion-clause-ok
returns-in-Assertion-clause-ok g c = IfOk-weaker c.run_assertion.result _ _
    (λ fails h known held. h c.args.document.now known (subst (λ r. ReadsAs c.args.document.now (request_of r)) c.in-Assertion.is c.in_ok-assertion.ensures.ok) held) c.run_assertion.ensures.ok

pub returns-in-Assertion-clause-err : goal.returns-in-Assertion-clause-err
returns-in-Assertion-clause-err g c = err_weaker c.run_assertion.result
    (λ e h known held. h c.args.document.now known (subst (λ r. ReadsAs c.args.document.now (request_of r)) c.in-Assertion.is c.in_ok-assertion.ensures.ok) held) c.run_assertion.ensures.err

pub returns-in-Begin-clause-ok : goal.returns-in-Begin-clause-ok
returns-in-Begin-clause-ok g c = IfOk-weaker c.begin_block.result _ _
    (λ fails h known held. block_begins _ c.args.document.now _ _ known _ _ fails (subst (λ r. ReadsAs c.args.document.now (request_of r)) c.in-Begin.is c.in_ok-assertion.ensures.ok) h.0 h.1 (λ m is. (held m is).0)) c.begin_block.ensures.ok

pub returns-in-Begin-clause-err : goal.returns-in-Begin-clause-err
returns-in-Begin-clause-err g c = err_weaker c.begin_block.result (λ e h known held. inl (memory_stops _ c.args.document.now _ _ _ e h)) c.begin_block.ensures.err

pub returns-in-End-clause-ok : goal.returns-in-End-clause-ok
returns-in-End-clause-ok g c = IfOk-weaker c.end_block.result _ _
    (λ fails h known held. block_ends _ c.args.document.now _ _ known _ _ fails (subst (λ r. ReadsAs c.args.document.now (request_of r)) c.in-End.is c.in_ok-assertion.ensures.ok) h.0 h.1 h.2 (λ m is. (held m is).0)) c.end_block.ensures.ok

pub returns-in-End-clause-err : goal.returns-in-End-clause-err
returns-in-End-clause-err g c = err_weaker c.end_block.result
    (λ e h known held. inl (none_ends _ c.args.document.now _ _ _ e (subst (λ r. ReadsAs c.args.document.now (request_of r)) c.in-End.is c.in_ok-assertion.ensures.ok) h.0 h.1)) c.end_block.ensures.err

pub returns-in-Begin-clause-covered : goal.returns-in-Begin-clause-covered
returns-in-Begin-clause-covered g c = on_ok c.begin_block.result (stays_same _ c.args.listed.now)

pub returns-in-End-clause-covered : goal.returns-in-End-clause-covered
returns-in-End-clause-covered g c = on_ok c.end_block.result (stays_same _ c.args.listed.now)
