use Rattle.std.proofs.lemmas.Result.{err_from_is_err_and}
use Rattle.snap_assert.proofs.Prelude.{InPlace, without_line, meta_in, contents_in}
use Rattle.snap_assert.proofs.Settling.{own_read_at}
use Rattle.snap_assert.proofs.Writing.{updated, kept_updated, kept_update_stopped, own_save_at}
use Rattle.snap_assert.proofs.Halting.{update_stopped}
use Rattle.snap_assert.proofs.settle.update.Goals as goal

pub returns-clause-ok : goal.returns-clause-ok
returns-clause-ok g c = λ asked prepared. updated asked c.args.prepared.now _ _ prepared c.in_ok-save.ensures.written

pub returns-clause-kept : goal.returns-clause-kept
returns-clause-kept g c = λ asked prepared. kept_updated asked c.args.prepared.now _ _ prepared c.in_ok-save.ensures.written

pub returns-in_err-save-clause-kept : goal.returns-in_err-save-clause-kept
returns-in_err-save-clause-kept g c = λ asked prepared. kept_update_stopped asked c.args.prepared.now c.in_err-save.field-0.0 _ _ prepared c.in_err-save.ensures.stopped

pub returns-in_err-save-clause-named : goal.returns-in_err-save-clause-named
returns-in_err-save-clause-named g c =
    let told = err_from_is_err_and c.from_residual.result c.from_residual.ensures.1 in
    rw (told.1, told.2) (λ asked prepared.
    own_save_at InPlace asked.path c.args.prepared.now.path asked.path (without_line (meta_in c.args.prepared.now.snapshot)) (contents_in c.args.prepared.now.snapshot) c.in_err-save.field-0.0 _ _ prepared.path (own_read_at InPlace asked.path) c.in_err-save.ensures.stopped c.in_err-save.ensures.error)

pub returns-in_err-save-clause-halted : goal.returns-in_err-save-clause-halted
returns-in_err-save-clause-halted g c =
    let told = err_from_is_err_and c.from_residual.result c.from_residual.ensures.1 in
    rw (told.1, told.2) (λ asked prepared. update_stopped asked c.args.prepared.now c.in_err-save.field-0.0 _ _ prepared c.in_err-save.ensures.stopped)
