use Rattle.snap_explain.proofs.Prelude.{◌∙◌, subst}
use Rattle.snap_explain.specs.Streams.{StreamTold, stream_at}
use Rattle.snap_explain.proofs.Documents.{told_nothing, stream_leaves, stream_length, never_bad_words, stream_reads, stream_writes, stream_files}
use Rattle.snap_explain.proofs.stream.explain_stream.Goals as goal

pub returns-in-Err-OutOfMemory-clause-leaves : goal.returns-in-Err-OutOfMemory-clause-leaves
returns-in-Err-OutOfMemory-clause-leaves g c = λ input w e f. told_nothing (stream_at c.args.asked.form c.args.asked.workspace.now c.args.asked.literal) (g.F.Store.files c.args.store.now) input w _ f

pub returns-in-Ok-clause-words : goal.returns-in-Ok-clause-words
returns-in-Ok-clause-words g c = rw c.stream_status.ensures (never_bad_words c.tell_input.result)

pub returns-in-Ok-clause-leaves : goal.returns-in-Ok-clause-leaves
returns-in-Ok-clause-leaves g c = λ input w e f.
    rw c.stream_status.ensures
    (stream_leaves c.tell_input.result (stream_at c.args.asked.form c.args.asked.workspace.now c.args.asked.literal) (g.F.Store.files c.args.store.now) input w _ (subst (λ i. StreamTold (stream_at c.args.asked.form c.args.asked.workspace.now c.args.asked.literal) (g.F.Store.files c.args.store.now) i w (g.K.Sink.written c.tell_input.new.sink) c.tell_input.result)
    (c.deref.ensures.value ∙ c.in-Ok.ensures.all input e) (c.tell_input.ensures.told w f)))

pub returns-in-Ok-clause-length : goal.returns-in-Ok-clause-length
returns-in-Ok-clause-length g c = rw c.stream_status.ensures (stream_length c.tell_input.result c.in-Ok.input.items _ _ c.in-Ok.ensures.all c.in-Ok.ensures.end c.in-Ok.ensures.within)

pub returns-in-Ok-clause-read : goal.returns-in-Ok-clause-read
returns-in-Ok-clause-read g c = rw c.stream_status.ensures (stream_reads c.tell_input.result _ _ c.in-Ok.ensures.cause)

pub returns-in-Ok-clause-write : goal.returns-in-Ok-clause-write
returns-in-Ok-clause-write g c = rw c.stream_status.ensures (stream_writes c.tell_input.result _ _ c.tell_input.ensures.write)

pub returns-in-Ok-clause-file : goal.returns-in-Ok-clause-file
returns-in-Ok-clause-file g c = rw c.stream_status.ensures (stream_files c.tell_input.result _ _ c.tell_input.ensures.file)
