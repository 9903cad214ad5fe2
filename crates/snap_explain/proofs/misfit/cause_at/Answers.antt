use Rattle.snap_explain.proofs.Foretold.{causes_read}
use Rattle.snap_explain.proofs.misfit.cause_at.Goals as goal

pub returns-in-Ok-clause-holds : goal.returns-in-Ok-clause-holds
returns-in-Ok-clause-holds g c = causes_read c.unlike_at-found.result c.in-Ok.old c.args.path.now (g.F.Store.files c.args.store.now) c.in-Ok.ensures.end c.unlike_at-found.ensures.cause_is
