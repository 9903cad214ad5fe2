use Rattle.snap_assert.proofs.Prelude.{◌∙◌, sym, subst, AreStrays, AllStray, IsCoveredAt}
use Rattle.snap_assert.proofs.Removals.{strays_gone}
use Rattle.snap_assert.specs.Subjects.{extension_in}
use Rattle.snap_assert.proofs.Settling.{cleared_is, unwritten_with, kept_clearing, own_strays, own_refused}
use Rattle.std.proofs.lemmas.Result.{err_from_is_err_and}
use Rattle.std.specs.Prelude.{◌≡◌, Some, map}
use Rattle.snap_io.specs.Changes.{all_changed, removes}
use Rattle.snap_assert.proofs.Halting.{look_halts, clearing_halts, removed_each}
use Rattle.snap_assert.proofs.look.look_and_clear.Goals as goal

pub returns-in_err-seen-clause-kept : goal.returns-in_err-seen-clause-kept
returns-in_err-seen-clause-kept g c = λ asked mode prepared. unwritten_with (extension_in asked.subject) mode asked.path _ _ c.in_err-seen.ensures.same

pub returns-in_err-seen-clause-named : goal.returns-in_err-seen-clause-named
returns-in_err-seen-clause-named g c = λ asked mode prepared. own_refused mode asked.path c.from_residual.result c.in_err-seen.field-0.0 c.from_residual.ensures.1 (c.in_err-seen.ensures.named asked mode prepared)

pub returns-in_err-clear-clause-kept : goal.returns-in_err-clear-clause-kept
returns-in_err-clear-clause-kept g c = λ asked mode prepared m told.
    kept_clearing mode asked _ _ _ (subst (AllStray asked.path) (sym c.deref.ensures.value) (c.in_ok-seen.ensures.strays asked prepared)) c.in_err-clear.ensures.kept m (c.in_ok-seen.ensures.same ∙ told)

pub returns-in_err-clear-clause-named : goal.returns-in_err-clear-clause-named
returns-in_err-clear-clause-named g c = λ asked mode prepared. own_refused mode asked.path c.from_residual-in_err-clear.result c.in_err-clear.field-0.0 c.from_residual-in_err-clear.ensures.1
    (own_strays mode asked.path _ c.in_err-clear.field-0.0 (subst (AllStray asked.path) (sym c.deref.ensures.value) (c.in_ok-seen.ensures.strays asked prepared)) c.in_err-clear.ensures.named)

pub returns-clause-kept : goal.returns-clause-kept
returns-clause-kept g c = λ asked mode prepared m told.
    kept_clearing mode asked _ _ _ (subst (AllStray asked.path) (sym c.deref.ensures.value) (c.in_ok-seen.ensures.strays asked prepared)) c.in_ok-clear.ensures.kept m (c.in_ok-seen.ensures.same ∙ told)

pub returns-clause-judged : goal.returns-clause-judged
returns-clause-judged g c = λ asked prepared m told covered. (c.in_ok-seen.ensures.seen asked prepared m told covered).judged

pub returns-clause-cleared : goal.returns-clause-cleared
returns-clause-cleared g c = λ asked prepared m told covered.
    cleared_is asked m _ _ _ (c.in_ok-seen.ensures.same ∙ told) (subst (AreStrays asked.path m) (sym c.deref.ensures.value) (c.in_ok-seen.ensures.seen asked prepared m told covered).strays) c.in_ok-clear.ensures.ok

pub returns-clause-covered : goal.returns-clause-covered
returns-clause-covered g c = λ asked prepared m told covered.
    subst (λ n. IsCoveredAt asked.path n c.clear.new.listed)
    (strays_gone asked.path m _ (subst (AreStrays asked.path m) (sym c.deref.ensures.value) (c.in_ok-seen.ensures.seen asked prepared m told covered).strays))
    (c.in_ok-clear.ensures.covered asked prepared m (c.in_ok-seen.ensures.same ∙ told) (c.in_ok-seen.ensures.covered m told covered))

pub returns-in_err-seen-clause-halted : goal.returns-in_err-seen-clause-halted
returns-in_err-seen-clause-halted g c =
    let told = err_from_is_err_and c.from_residual.result c.from_residual.ensures.1 in
    rw (told.1, told.2) (λ asked prepared config known held.
    look_halts _ config asked c.in_err-seen.field-0.0 known _ _ (λ m told. (held m told).0) c.in_err-seen.ensures.same (c.in_err-seen.ensures.looked asked prepared))

pub returns-in_err-clear-clause-halted : goal.returns-in_err-clear-clause-halted
returns-in_err-clear-clause-halted g c =
    let told = err_from_is_err_and c.from_residual-in_err-clear.result c.from_residual-in_err-clear.ensures.1 in
    rw (told.1, told.2) (λ asked prepared config known held.
    clearing_halts _ config asked c.in_err-clear.field-0.0 known _ _ _ c.in_ok-seen.seen.judged.passed c.in_ok-seen.seen.strays.items _ (λ m told. (held m told).0) c.deref.ensures.value
    (c.in_ok-seen.ensures.strays asked prepared)
    (λ m told.
    let seen = c.in_ok-seen.ensures.seen asked prepared m (held m told).0 (held m told).1 in
    record { passes = (_, seen.judged); left = seen.strays })
    c.in_ok-seen.ensures.same c.in_err-clear.ensures.halted)

pub returns-clause-gone : goal.returns-clause-gone
returns-clause-gone g c = (
  c.in_ok-seen.seen.strays.items,
  c.in_ok-seen.ensures.strays,
  λ asked prepared m told covered. (c.in_ok-seen.ensures.seen asked prepared m told covered).strays,
  λ m told. subst (λ ps. g.S.Store.files c.clear.new.store ≡ Some (all_changed (map removes ps) m)) c.deref.ensures.value (removed_each c.deref.result.now _ _ c.in_ok-clear.ensures.ok m (c.in_ok-seen.ensures.same ∙ told)),
)
