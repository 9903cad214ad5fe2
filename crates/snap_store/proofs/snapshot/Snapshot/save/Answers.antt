use Rattle.snap_store.proofs.Prelude.{refl, without_line, meta_in, contents_in}
use Rattle.std.proofs.lemmas.Result.{err_from_is_err_and}
use Rattle.snap_io.proofs.Standing.{nothing_begun}
use Rattle.snap_store.specs.Saving.{saving}
use Rattle.snap_store.proofs.Written.{at_ok}
use Rattle.snap_store.proofs.snapshot.Snapshot.save.Goals as goal

pub returns-in_err-text-clause-stopped : goal.returns-in_err-text-clause-stopped
returns-in_err-text-clause-stopped g c =
    let told = err_from_is_err_and c.from_residual.result c.from_residual.ensures.1 in
    rw (told.1, told.2) (nothing_begun (saving c.args.path.now (without_line (meta_in c.args.self.now)) (contents_in c.args.self.now)) _ _ refl)

pub returns-clause-written : goal.returns-clause-written
returns-clause-written g c = at_ok c.write_files.result (λ written. written (without_line (meta_in c.args.self.now)) refl c.in_ok-text.ensures) c.write_files.ensures.written

pub returns-clause-stopped : goal.returns-clause-stopped
returns-clause-stopped g c = c.write_files.ensures.stopped (without_line (meta_in c.args.self.now)) refl c.in_ok-text.ensures
