use Rattle.std.proofs.Common.{rules}
use Rattle.snap_explain_unused.proofs.Prelude.{refl, ◌∙◌, err_from_is_err_and, words_of}
use Rattle.snap_explain_unused.proofs.AskedPaths.{asked_start, asked_more, asked_end, asked_stop, first_is}
use Rattle.snap_explain_unused.proofs.asking.ask_documents.Goals as goal

pub loop-rest-init : goal.loop-rest-init
loop-rest-init g c = record { so_far = asked_start (words_of c.args.runner.now) _ _ _ c.requires.fresh c.requires.none; count = refl; files = refl }

pub loop-rest-preserved : goal.loop-rest-preserved
loop-rest-preserved g c = record {
  so_far = asked_more (words_of c.args.runner.now) _ _ _ _ _ _ _ _ (first_is _ _ _ _ c.first_document_end.ensures.cut c.split_at.ensures.front c.split_at.ensures.back) c.loop-rest.invariant.so_far c.in_ok-ask_document.ensures.asked;
  count = c.in_ok-ask_document.ensures.cause ∙ c.loop-rest.invariant.count;
  files = c.in_ok-ask_document.ensures.same ∙ c.loop-rest.invariant.files;
}

pub returns-in_err-ask_document-clause-stopped : goal.returns-in_err-ask_document-clause-stopped
returns-in_err-ask_document-clause-stopped g c =
    let sent = err_from_is_err_and c.from_residual.result c.from_residual.ensures.1 in
    rw (sent.1, sent.2)
    (asked_stop c.in_err-ask_document.field-0.0 (words_of c.args.runner.now) _ _ _ c.split_at.result.1.now _ _ (first_is _ _ _ _ c.first_document_end.ensures.cut c.split_at.ensures.front c.split_at.ensures.back) c.loop-rest.invariant.so_far c.in_err-ask_document.ensures.stopped)

pub returns-clause-asked : goal.returns-clause-asked
returns-clause-asked g c = asked_end (words_of c.args.runner.now) _ _ _ _ (search rules) c.loop-rest.invariant.so_far
