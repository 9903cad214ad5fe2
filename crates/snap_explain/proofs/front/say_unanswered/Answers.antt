use Rattle.snap_explain.proofs.Pages.{page_leaves, said_unanswered, said_writes}
use Rattle.snap_explain.proofs.front.say_unanswered.Goals as goal

pub returns-clause-leaves : goal.returns-clause-leaves
returns-clause-leaves g c = λ refused w e. rw c.said_status.ensures (page_leaves _ _ c.args.error w _ c.say_failing-said.result refused (c.say_failing-said.ensures.said w e))

pub returns-clause-found : goal.returns-clause-found
returns-clause-found g c = rw c.said_status.ensures (said_unanswered c.say_failing-said.result)

pub returns-clause-write : goal.returns-clause-write
returns-clause-write g c = rw c.said_status.ensures (said_writes c.say_failing-said.result _ _ c.say_failing-said.ensures.cause)
