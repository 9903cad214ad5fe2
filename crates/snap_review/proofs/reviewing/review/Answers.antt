use Rattle.snap_review.proofs.Planning.{unbegun}
use Rattle.snap_review.proofs.reviewing.review.Goals as goal

pub returns-in-Err-clause-end : goal.returns-in-Err-clause-end
returns-in-Err-clause-end g c = unbegun _ (g.S.Store.files c.args.store.now) (g.K.Sink.written c.args.sink.now) c.in-Err.ensures
