use Rattle.snap_explain_review.proofs.Prelude.{refl}
use Rattle.snap_explain_review.proofs.Endings.{said_fault, says_reason, silent_fault, silent_says, silent_writes}
use Rattle.snap_explain_review.proofs.telling.tell.Goals as goal

pub returns-in-Some-clause-said : goal.returns-in-Some-clause-said
returns-in-Some-clause-said g c = silent_says c.args.foreseen.now c.args.request.now c.in-Some.status _ c.in-Some.ensures

pub returns-in-Some-clause-fault : goal.returns-in-Some-clause-fault
returns-in-Some-clause-fault g c = silent_fault c.args.foreseen.now c.in-Some.status c.in-Some.ensures

pub returns-in-Some-clause-cause : goal.returns-in-Some-clause-cause
returns-in-Some-clause-cause g c = rw (silent_writes c.args.foreseen.now c.in-Some.status c.in-Some.ensures) refl

pub returns-in-None-clause-said : goal.returns-in-None-clause-said
returns-in-None-clause-said g c = says_reason c.args.foreseen.now c.args.request.now c.say_reason.result _ _ c.in-None.ensures c.say_reason.ensures.said

pub returns-in-None-clause-fault : goal.returns-in-None-clause-fault
returns-in-None-clause-fault g c = said_fault c.args.foreseen.now _ c.say_reason.result _ _ c.in-None.ensures c.say_reason.ensures.said
