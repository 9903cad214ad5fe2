use Rattle.snap_explain_unused.proofs.NamedFiles.{leaves_said, leaves_stopped, said_after, said_files, after_stopped, stopped_writes, stopped_files}
use Rattle.snap_explain_unused.proofs.naming.name_unused_of.Goals as goal

pub returns-in-Ok-clause-leaves : goal.returns-in-Ok-clause-leaves
returns-in-Ok-clause-leaves g c = λ w e. leaves_said c.say-status.result c.args.workspace.now (g.F.Store.files c.args.store.now) c.args.input.now w _ c.in-Ok.findings c.in-Ok.ensures.found (c.say-status.ensures.said w e)

pub returns-in-Ok-clause-read : goal.returns-in-Ok-clause-read
returns-in-Ok-clause-read g c = said_after c.say-status.result c.say-status.ensures.kind

pub returns-in-Ok-clause-file : goal.returns-in-Ok-clause-file
returns-in-Ok-clause-file g c = said_files c.say-status.result _ _ c.say-status.ensures.kind c.in-Ok.ensures.cause

pub returns-in-Err-clause-leaves : goal.returns-in-Err-clause-leaves
returns-in-Err-clause-leaves g c = λ w e. rw c.stopped.ensures (leaves_stopped c.in-Err.stop c.args.workspace.now (g.F.Store.files c.args.store.now) c.args.input.now w _ c.in-Err.ensures.stopped e)

pub returns-in-Err-clause-read : goal.returns-in-Err-clause-read
returns-in-Err-clause-read g c = rw c.stopped.ensures (after_stopped c.in-Err.stop)

pub returns-in-Err-clause-write : goal.returns-in-Err-clause-write
returns-in-Err-clause-write g c = rw c.stopped.ensures (stopped_writes c.in-Err.stop _)

pub returns-in-Err-clause-file : goal.returns-in-Err-clause-file
returns-in-Err-clause-file g c = rw c.stopped.ensures (stopped_files c.in-Err.stop _ _ c.in-Err.ensures.cause)
