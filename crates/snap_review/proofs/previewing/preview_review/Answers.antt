use Rattle.snap_review.proofs.Foreseeing.{unbegun_preview}
use Rattle.snap_review.proofs.previewing.preview_review.Goals as goal

pub returns-in-Err-clause-end : goal.returns-in-Err-clause-end
returns-in-Err-clause-end g c = unbegun_preview _ (g.S.Store.files c.args.store.now) c.in-Err.ensures
