use Rattle.snap_run.proofs.Prelude.{◌∙◌}
use Rattle.snap_run.proofs.RunEnds.{no_memory, read_fault, too_long, finished, stopped}
use Rattle.snap_run.proofs.running.run_said.Goals as goal

pub returns-in_default-clause-runs : goal.returns-in_default-clause-runs
returns-in_default-clause-runs g c = no_memory _ _ _

pub returns-in-Err-Fault-clause-runs : goal.returns-in-Err-Fault-clause-runs
returns-in-Err-Fault-clause-runs g c = read_fault _ _ _

pub returns-in-Err-TooLong-clause-runs : goal.returns-in-Err-TooLong-clause-runs
returns-in-Err-TooLong-clause-runs g c = too_long _ _ _

pub returns-in-Err-OutOfMemory-clause-runs : goal.returns-in-Err-OutOfMemory-clause-runs
returns-in-Err-OutOfMemory-clause-runs g c = no_memory _ _ _

pub returns-in-Ok-run_documents-clause-runs : goal.returns-in-Ok-run_documents-clause-runs
returns-in-Ok-run_documents-clause-runs g c =
    finished _ c.in-Ok-run_documents.tally c.in-Ok-new.runner _ c.deref.result.now _ _ _ _ c.new-session.ensures c.ended.ensures c.in-Ok-new.ensures.words
    (λ xs e. c.deref.ensures.value ∙ c.in-Ok.ensures.all xs e) c.in-Ok-run_documents.ensures.finished

pub returns-clause-runs : goal.returns-clause-runs
returns-clause-runs g c =
    stopped _ c.in-Ok-new.runner _ c.deref.result.now _ _ _ _ c.new-session.ensures c.in-Ok-new.ensures.words
    (λ xs e. c.deref.ensures.value ∙ c.in-Ok.ensures.all xs e) c.in-Err.ensures.stopped
