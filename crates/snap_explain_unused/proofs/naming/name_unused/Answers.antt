use Rattle.snap_explain_unused.proofs.Prelude.{◌∙◌, ap, Err, subst, UnusedLeaves}
use Rattle.snap_explain_unused.proofs.NamedFiles.{length_after, reads_after}
use Rattle.snap_explain_unused.proofs.naming.name_unused.Goals as goal

pub returns-in-Err-Fault-clause-run : goal.returns-in-Err-Fault-clause-run
returns-in-Err-Fault-clause-run g c = record { leaves = λ input w e f. f; taken = c.in-Err-Fault.ensures.fault (ap Err c.in-Err-Fault.field-0-is) }

pub returns-in-Err-TooLong-clause-run : goal.returns-in-Err-TooLong-clause-run
returns-in-Err-TooLong-clause-run g c = record { leaves = λ input w e f. f; taken = c.in-Err-TooLong.ensures.too_long (ap Err c.in-Err-TooLong.field-0-is) }

pub returns-in-Err-OutOfMemory-clause-run : goal.returns-in-Err-OutOfMemory-clause-run
returns-in-Err-OutOfMemory-clause-run g c = record { leaves = λ input w e f. f; taken = c.in-Err-OutOfMemory.ensures.taken }

pub returns-in-Ok-clause-run : goal.returns-in-Ok-clause-run
returns-in-Ok-clause-run g c = record {
  leaves = λ input w e f.
      subst (λ i. UnusedLeaves c.args.workspace.now (g.F.Store.files c.args.store.now) c.name_unused_of.result i w (g.K.Sink.written c.name_unused_of.new.sink)) (c.deref.ensures.value ∙ c.in-Ok.ensures.all input e)
      (c.name_unused_of.ensures.leaves w f);
  taken = length_after c.name_unused_of.result c.in-Ok.input.items _ _ c.name_unused_of.ensures.read c.in-Ok.ensures.all c.in-Ok.ensures.end c.in-Ok.ensures.within;
}

pub returns-in-Ok-clause-read : goal.returns-in-Ok-clause-read
returns-in-Ok-clause-read g c = reads_after c.name_unused_of.result _ _ c.name_unused_of.ensures.read c.in-Ok.ensures.cause
