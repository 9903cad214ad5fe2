use Rattle.snap_explain.proofs.front.explain_page.Goals as goal

pub returns-in-Ok-None-clause-leaves : goal.returns-in-Ok-None-clause-leaves
returns-in-Ok-None-clause-leaves g c = λ w e. (rw c.in-Ok-None.field-0-is at c.in-Ok-None.ensures, e)

pub returns-in-Ok-Some-clause-leaves : goal.returns-in-Ok-Some-clause-leaves
returns-in-Ok-Some-clause-leaves g c = λ w e. c.say_unanswered.ensures.leaves (rw c.in-Ok-Some.field-0-is at c.in-Ok-Some.ensures) w e
