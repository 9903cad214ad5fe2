use Rattle.snap_assert.proofs.Prelude.{◌∙◌, ap, sym, subst, true, Some, on_ok_weaker, step}
use Rattle.snap_assert.specs.Subjects.{extension_in}
use Rattle.snap_assert.proofs.Settling.{passed_is, kept_approving, kept_both, own_wait, own_refused}
use Rattle.std.proofs.lemmas.Result.{err_from_is_err_and}
use Rattle.snap_io.specs.StandsAfter.{StandsAfter}
use Rattle.snap_assert.specs.Halts.{named_by}
use Rattle.snap_assert.specs.Settling.{leaving}
use Rattle.snap_assert.proofs.Refusals.{err_weaker}
use Rattle.snap_assert.proofs.Halting.{approve_stopped, forced_stopped}
use Rattle.snap_assert.proofs.settle.settle.Goals as goal

pub returns-then-not-passed-clause-ok : goal.returns-then-not-passed-clause-ok
returns-then-not-passed-clause-ok g c = on_ok_weaker c.write_by.result (λ written asked m prepared told.
    written asked prepared _ told
    ∙ ap (λ b. Some (step c.args.config.now.update c.args.config.now.force_update asked b m)) (sym c.if-not-passed.true)) c.write_by.ensures.ok

pub returns-then-not-passed-clause-kept : goal.returns-then-not-passed-clause-kept
returns-then-not-passed-clause-kept g c = λ asked prepared. c.write_by.ensures.kept asked prepared

pub returns-then-not-passed-clause-named : goal.returns-then-not-passed-clause-named
returns-then-not-passed-clause-named g c = λ asked prepared. c.write_by.ensures.named asked prepared

pub returns-in_err-approve-clause-kept : goal.returns-in_err-approve-clause-kept
returns-in_err-approve-clause-kept g c = λ asked prepared. kept_approving c.args.config.now.update asked c.args.prepared.now _ _ prepared c.in_err-approve.ensures.kept

pub returns-in_err-approve-clause-named : goal.returns-in_err-approve-clause-named
returns-in_err-approve-clause-named g c = λ asked prepared. own_refused c.args.config.now.update asked.path c.from_residual.result c.in_err-approve.field-0.0 c.from_residual.ensures.1
    (own_wait c.args.config.now.update asked.path _ c.in_err-approve.field-0.0 prepared.pending c.in_err-approve.ensures.named)

pub returns-then-config-clause-ok : goal.returns-then-config-clause-ok
returns-then-config-clause-ok g c = on_ok_weaker c.write_by-then-config.result (λ written asked m prepared told.
    written asked prepared _ (passed_is asked m c.args.prepared.now _ _ prepared told c.in_ok-approve.ensures.ok)
    ∙ ap (λ b. Some (step c.args.config.now.update b asked true m)) (sym c.if-config.true)
    ∙ ap (λ b. Some (step c.args.config.now.update c.args.config.now.force_update asked b m)) (sym c.if-not-passed.false)) c.write_by-then-config.ensures.ok

pub returns-then-config-clause-kept : goal.returns-then-config-clause-kept
returns-then-config-clause-kept g c = λ asked prepared.
    let mode = c.args.config.now.update in
    kept_both (extension_in asked.subject) mode asked.path _ _ _ (kept_approving mode asked c.args.prepared.now _ _ prepared c.in_ok-approve.ensures.kept)
    (c.write_by-then-config.ensures.kept asked prepared)

pub returns-then-config-clause-named : goal.returns-then-config-clause-named
returns-then-config-clause-named g c = λ asked prepared. c.write_by-then-config.ensures.named asked prepared

pub returns-else-config-clause-ok : goal.returns-else-config-clause-ok
returns-else-config-clause-ok g c = λ asked m prepared told.
    passed_is asked m c.args.prepared.now _ _ prepared told c.in_ok-approve.ensures.ok
    ∙ ap (λ b. Some (step c.args.config.now.update b asked true m)) (sym c.if-config.false)
    ∙ ap (λ b. Some (step c.args.config.now.update c.args.config.now.force_update asked b m)) (sym c.if-not-passed.false)

pub returns-else-config-clause-kept : goal.returns-else-config-clause-kept
returns-else-config-clause-kept g c = λ asked prepared. kept_approving c.args.config.now.update asked c.args.prepared.now _ _ prepared c.in_ok-approve.ensures.kept

pub returns-then-not-passed-clause-halted : goal.returns-then-not-passed-clause-halted
returns-then-not-passed-clause-halted g c =
    err_weaker c.write_by.result (λ e h asked prepared.
    subst (λ b. StandsAfter (leaving c.args.config.now.update c.args.config.now.force_update asked b) (named_by e) (g.S.Store.files c.args.store.now) (g.S.Store.files c.write_by.new.store)) (sym c.if-not-passed.true)
    (h asked prepared)) c.write_by.ensures.halted

pub returns-in_err-approve-clause-halted : goal.returns-in_err-approve-clause-halted
returns-in_err-approve-clause-halted g c =
    let told = err_from_is_err_and c.from_residual.result c.from_residual.ensures.1 in
    rw (told.1, told.2) (λ asked prepared.
    approve_stopped c.args.config.now.update c.args.config.now.force_update asked c.args.passed c.args.prepared.now _ _ _ c.if-not-passed.false prepared c.in_err-approve.ensures.halted)

pub returns-then-config-clause-halted : goal.returns-then-config-clause-halted
returns-then-config-clause-halted g c =
    err_weaker c.write_by-then-config.result (λ e h asked prepared.
    forced_stopped c.args.config.now.update c.args.config.now.force_update asked c.args.passed c.args.prepared.now _ _ _ _ c.if-not-passed.false c.if-config.true prepared c.in_ok-approve.ensures.ok
    (h asked prepared)) c.write_by-then-config.ensures.halted
