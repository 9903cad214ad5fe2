use Rattle.snap_front.proofs.RunLeft.{told-length}
use Rattle.snap_front.proofs.invocation.front_program.Goals as goal

pub returns-in-Some-clause-length : goal.returns-in-Some-clause-length
returns-in-Some-clause-length g c = told-length c.in-Some.text.now c.tell.result _ _ _ c.tell.ensures.told
