use Rattle.std.proofs.Common.{rules}
use Rattle.snap_explain.proofs.Prelude.{refl, ◌∙◌, ◌+◌, arith, subst, Ok, Err, err_from_is_err_and}
use Rattle.snap_assert.specs.Session.{session_of}
use Rattle.snap_run.specs.Runner.{words_of}
use Rattle.snap_explain.specs.Asked.{known_by, nothing_known}
use Rattle.snap_explain.proofs.Foretold.{known_is}
use Rattle.snap_explain.specs.Streams.{in_form}
use Rattle.snap_explain.proofs.Documents.{DocumentOf, told_start, told_more, told_end, told_stop, first_is}
use Rattle.snap_explain.proofs.stream.tell_documents.Goals as goal

pub loop-rest-init : goal.loop-rest-init
loop-rest-init g c = record { so_far = λ w e. told_start (in_form c.args.form (words_of c.args.runner.now)) _ _ w _ (known_by (session_of c.args.session.now) c.new-earlier.result) (known_is (known_by (session_of c.args.session.now) c.new-earlier.result) nothing_known c.requires.fresh c.new-earlier.ensures) e; few = omega arith; sink_count = refl; store_count = refl; files = refl }

pub loop-rest-preserved : goal.loop-rest-preserved
loop-rest-preserved g c = record {
  so_far = λ w e.
      told_more (in_form c.args.form (words_of c.args.runner.now)) _ _ w _ _ _ _ _ _ _ _ _ _ (first_is _ _ _ _ c.first_document_end.ensures.cut c.split_at.ensures.front c.split_at.ensures.back) (c.loop-rest.invariant.so_far w e)
      (subst (λ files. DocumentOf (in_form c.args.form (words_of c.args.runner.now)) files (c.loop-rest.number + 1) c.split_at.result.0.now (known_by (session_of c.loop-rest.session) c.loop-rest.earlier) (known_by (session_of c.tell_document.new.session) c.tell_document.new.earlier) (g.K.Sink.written c.loop-rest.sink) (g.K.Sink.written c.tell_document.new.sink) (Ok c.in_ok-said.said)) c.loop-rest.invariant.files c.in_ok-said.ensures.said);
  few = omega (arith, c.split_at.ensures.back_len, c.first_document_end.ensures.positive);
  sink_count = c.in_ok-said.ensures.write ∙ c.loop-rest.invariant.sink_count;
  store_count = c.in_ok-said.ensures.file ∙ c.loop-rest.invariant.store_count;
  files = c.in_ok-said.ensures.same ∙ c.loop-rest.invariant.files;
}

pub returns-in_err-said-clause-told : goal.returns-in_err-said-clause-told
returns-in_err-said-clause-told g c = λ w e.
    let sent = err_from_is_err_and c.from_residual.result c.from_residual.ensures.1 in
    rw sent.1
    (told_stop c.in_err-said.field-0.0 (in_form c.args.form (words_of c.args.runner.now)) _ _ w _ _ c.split_at.result.1.now _ _ _ _ _ _ (first_is _ _ _ _ c.first_document_end.ensures.cut c.split_at.ensures.front c.split_at.ensures.back)
    (c.loop-rest.invariant.so_far w e)
    (subst (λ files. DocumentOf (in_form c.args.form (words_of c.args.runner.now)) files (c.loop-rest.number + 1) c.split_at.result.0.now (known_by (session_of c.loop-rest.session) c.loop-rest.earlier) (known_by (session_of c.tell_document.new.session) c.tell_document.new.earlier) (g.K.Sink.written c.loop-rest.sink) (g.K.Sink.written c.tell_document.new.sink) (Err c.in_err-said.field-0.0)) c.loop-rest.invariant.files c.in_err-said.ensures.said))

pub returns-clause-told : goal.returns-clause-told
returns-clause-told g c = λ w e. told_end (in_form c.args.form (words_of c.args.runner.now)) _ c.args.input.now w c.loop-rest.rest.now _ c.loop-rest.number _ c.loop-rest.found (search rules) (c.loop-rest.invariant.so_far w e)
