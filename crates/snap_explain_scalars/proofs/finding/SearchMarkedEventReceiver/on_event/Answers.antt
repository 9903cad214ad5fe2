use Rattle.snap_explain_scalars.proofs.FirstTold.{told-on, told-still}
use Rattle.snap_explain_scalars.proofs.finding.SearchMarkedEventReceiver.on_event.Goals as goal

pub returns-clause-ok : goal.returns-clause-ok
returns-clause-ok c = λ events h. told-on c.keep.result c.args.ev events _ _ h c.keep.ensures.ok

pub returns-clause-err : goal.returns-clause-err
returns-clause-err c = λ events h. told-still c.keep.result events _ _ h c.keep.ensures.err
