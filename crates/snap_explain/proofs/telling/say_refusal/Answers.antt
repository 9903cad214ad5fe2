use Rattle.snap_explain.proofs.Documents.{said_refusal}
use Rattle.snap_explain.proofs.telling.say_refusal.Goals as goal

pub returns-clause-said : goal.returns-clause-said
returns-clause-said g c = λ w e refused. said_refusal c.say_told-said.result c.args.form _ _ _ c.in_ok-told.told.place c.in_ok-told.told.seen c.in_ok-told.told.detail w _ refused (c.say_told-said.ensures.said w e)
