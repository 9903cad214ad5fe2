use Rattle.std.proofs.lemmas.Result.{err_from_is_err_and}
use Rattle.snap_assert.proofs.Prelude.{NewFile, ap, pending_path, meta_in, contents_in}
use Rattle.snap_assert.proofs.Settling.{own_pending_at}
use Rattle.snap_assert.proofs.Writing.{postponed, kept_postponed, kept_postpone_stopped, own_save_at}
use Rattle.snap_assert.proofs.Halting.{postpone_stopped}
use Rattle.snap_assert.proofs.settle.postpone.Goals as goal

pub returns-clause-ok : goal.returns-clause-ok
returns-clause-ok g c = λ asked prepared. postponed asked c.args.prepared.now _ _ prepared c.in_ok-save_new.ensures.written

pub returns-clause-kept : goal.returns-clause-kept
returns-clause-kept g c = λ asked prepared. kept_postponed asked c.args.prepared.now _ _ prepared c.in_ok-save_new.ensures.written

pub returns-in_err-save_new-clause-kept : goal.returns-in_err-save_new-clause-kept
returns-in_err-save_new-clause-kept g c = λ asked prepared. kept_postpone_stopped asked c.args.prepared.now c.in_err-save_new.field-0.0 _ _ prepared c.in_err-save_new.ensures.stopped

pub returns-in_err-save_new-clause-named : goal.returns-in_err-save_new-clause-named
returns-in_err-save_new-clause-named g c =
    let told = err_from_is_err_and c.from_residual.result c.from_residual.ensures.1 in
    rw (told.1, told.2) (λ asked prepared.
    own_save_at NewFile asked.path (pending_path c.args.prepared.now.path) (pending_path asked.path) (meta_in c.args.prepared.now.snapshot) (contents_in c.args.prepared.now.snapshot) c.in_err-save_new.field-0.0 _ _ (ap pending_path prepared.path) (own_pending_at NewFile asked.path) c.in_err-save_new.ensures.stopped c.in_err-save_new.ensures.error)

pub returns-in_err-save_new-clause-halted : goal.returns-in_err-save_new-clause-halted
returns-in_err-save_new-clause-halted g c =
    let told = err_from_is_err_and c.from_residual.result c.from_residual.ensures.1 in
    rw (told.1, told.2) (λ asked prepared. postpone_stopped asked c.args.prepared.now c.in_err-save_new.field-0.0 _ _ prepared c.in_err-save_new.ensures.stopped)
