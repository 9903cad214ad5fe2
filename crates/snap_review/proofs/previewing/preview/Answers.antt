use Rattle.snap_review.proofs.Foreseeing.{previewed}
use Rattle.snap_review.proofs.previewing.preview.Goals as goal

pub returns-in-Err-clause-end : goal.returns-in-Err-clause-end
returns-in-Err-clause-end g c = previewed c.args.request.now c.in-Err.status (g.S.Store.files c.args.store.now) c.in-Err.ensures.end
