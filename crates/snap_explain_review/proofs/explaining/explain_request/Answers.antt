use Rattle.snap_explain_review.proofs.Endings.{explained}
use Rattle.snap_explain_review.proofs.explaining.explain_request.Goals as goal

pub returns-clause-end : goal.returns-clause-end
returns-clause-end g c = λ same. explained _ c.args.request.now c.preview_review-foreseen.result c.tell-status.result (g.S.Store.files c.args.store.now) _ _ same c.preview_review-foreseen.ensures.end c.tell-status.ensures.said

pub returns-clause-file : goal.returns-clause-file
returns-clause-file g c = rw c.tell-status.ensures.fault c.preview_review-foreseen.ensures.file
