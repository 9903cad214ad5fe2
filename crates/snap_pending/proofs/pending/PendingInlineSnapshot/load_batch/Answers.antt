use Rattle.std.proofs.lemmas.Result.{err_from_is_err_and}
use Rattle.snap_store.proofs.Told.{file_at}
use Rattle.snap_pending.proofs.LinesRead.{refused_call}
use Rattle.snap_pending.proofs.pending.PendingInlineSnapshot.load_batch.Goals as goal

pub returns-in_err-found-clause-end : goal.returns-in_err-found-clause-end
returns-in_err-found-clause-end g c =
    let at = file_at c.args.path.now (g.S.Store.files c.args.store.now) in
    let told = err_from_is_err_and c.from_residual.result c.from_residual.ensures.1 in
    record { file = at.0; told = at.1; comes_to = rw (told.1, told.2) (refused_call c.args.path.now at.0 c.in_err-found.field-0.0 c.in_err-found.ensures.error) }

pub returns-clause-cause : goal.returns-clause-cause
returns-clause-cause g c = rw c.in_ok-found.ensures.cause (c.batch_of_file.ensures.no_fault _)
