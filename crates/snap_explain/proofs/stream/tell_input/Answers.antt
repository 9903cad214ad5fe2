use Rattle.snap_explain.proofs.Prelude.{err_from_is_err_and}
use Rattle.snap_explain.specs.Streams.{stream_at}
use Rattle.snap_explain.proofs.Documents.{told_nothing}
use Rattle.snap_explain.proofs.stream.tell_input.Goals as goal

pub returns-in_err-runner-clause-told : goal.returns-in_err-runner-clause-told
returns-in_err-runner-clause-told g c = λ w e.
    let told = err_from_is_err_and c.from_residual.result c.from_residual.ensures.1 in
    rw told.1 (told_nothing (stream_at c.args.asked.form c.args.asked.workspace.now c.args.asked.literal) (g.F.Store.files c.args.store.now) c.args.input.now w _ e)
