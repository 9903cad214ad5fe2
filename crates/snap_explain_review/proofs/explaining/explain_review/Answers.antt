use Rattle.snap_explain_review.proofs.Endings.{explanation, unbegun_explanation}
use Rattle.snap_explain_review.proofs.explaining.explain_review.Goals as goal

pub returns-in-Err-clause-end : goal.returns-in-Err-clause-end
returns-in-Err-clause-end g c = unbegun_explanation _ (g.S.Store.files c.args.store.now) (g.K.Sink.written c.args.sink.now) c.in-Err.ensures

pub returns-in-Ok-Some-clause-end : goal.returns-in-Ok-Some-clause-end
returns-in-Ok-Some-clause-end g c =
    let same = rw c.in-Ok-Some.field-0-is at c.in-Ok-Some.ensures in
    explanation _ _ c.explain_request.result (g.S.Store.files c.args.store.now) _ _ same (c.explain_request.ensures.end same)
