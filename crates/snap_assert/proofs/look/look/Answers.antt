use Rattle.snap_assert.proofs.Prelude.{◌∙◌, ap, sym, subst, parent_of, AreStrays, AllStray}
use Rattle.std.proofs.lemmas.Result.{err_from_is_err_and}
use Rattle.snap_assert_place.specs.SnapshotPath.{IsFilePath}
use Rattle.snap_assert.proofs.Calls.{own_folder, call_cause}
use Rattle.snap_assert.proofs.Settling.{own_read, own_error_at, own_refused}
use Rattle.snap_assert.proofs.Halting.{folder_looks, looks_as}
use Rattle.snap_assert.proofs.look.look.Goals as goal

pub returns-in_err-judged-clause-named : goal.returns-in_err-judged-clause-named
returns-in_err-judged-clause-named g c = λ asked mode prepared. own_refused mode asked.path c.from_residual.result c.in_err-judged.field-0.0 c.from_residual.ensures.1
    (own_error_at mode c.args.prepared.now.path asked.path c.in_err-judged.field-0.0 prepared.path (own_read mode c.args.prepared.now.path c.in_err-judged.field-0.0 c.in_err-judged.ensures.named))

pub returns-in_err-strays-clause-named : goal.returns-in_err-strays-clause-named
returns-in_err-strays-clause-named g c = λ asked mode prepared.
    let told = err_from_is_err_and c.from_residual-in_err-strays.result c.from_residual-in_err-strays.ensures.1 in
    rw (told.1, told.2) (own_folder mode asked.path c.args.prepared.now.folder c.in_err-strays.field-0.0 prepared.folder c.in_err-strays.ensures.error)

pub returns-in_err-strays-clause-cause : goal.returns-in_err-strays-clause-cause
returns-in_err-strays-clause-cause g c =
    let told = err_from_is_err_and c.from_residual-in_err-strays.result c.from_residual-in_err-strays.ensures.1 in
    rw (told.1, told.2)
    (call_cause _ _ _ c.args.prepared.now.folder c.in_err-strays.field-0.0 c.in_ok-judged.ensures.cause c.in_err-strays.ensures.error c.in_err-strays.ensures.cause)

pub returns-clause-seen : goal.returns-clause-seen
returns-clause-seen g c = λ asked prepared m told covered. record {
  judged = c.in_ok-judged.ensures.judged asked prepared m told;
  strays = subst (λ path. AreStrays path m c.in_ok-strays.strays.items) prepared.path
      (c.in_ok-strays.ensures.strays (subst (λ path. IsFilePath path) (sym prepared.path) prepared.file_path) (prepared.folder ∙ ap parent_of (sym prepared.path))
      m (c.in_ok-judged.ensures.same ∙ told) covered);
}

pub returns-clause-strays : goal.returns-clause-strays
returns-clause-strays g c = λ asked prepared. subst (λ path. AllStray path c.in_ok-strays.strays.items) prepared.path c.in_ok-strays.ensures.all

pub returns-clause-covered : goal.returns-clause-covered
returns-clause-covered g c = λ m told covered. c.in_ok-strays.ensures.covered m (c.in_ok-judged.ensures.same ∙ told) covered

pub returns-in_err-judged-clause-looked : goal.returns-in_err-judged-clause-looked
returns-in_err-judged-clause-looked g c =
    let told = err_from_is_err_and c.from_residual.result c.from_residual.ensures.1 in
    rw (told.1, told.2) (λ asked prepared. looks_as c.args.prepared.now.path asked.path _ c.in_err-judged.field-0.0 prepared.path c.in_err-judged.ensures.looked)

pub returns-in_err-strays-clause-looked : goal.returns-in_err-strays-clause-looked
returns-in_err-strays-clause-looked g c =
    let told = err_from_is_err_and c.from_residual-in_err-strays.result c.from_residual-in_err-strays.ensures.1 in
    rw (told.1, told.2) (λ asked prepared. folder_looks asked.path c.args.prepared.now.folder _ c.in_err-strays.field-0.0 prepared.folder c.in_err-strays.ensures.error)
