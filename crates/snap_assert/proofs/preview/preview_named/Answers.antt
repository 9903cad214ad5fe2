use Rattle.snap_assert.proofs.Prelude.{refl, inl, settings_of, place_of}
use Rattle.snap_assert.proofs.Foreseeing.{foreseen}
use Rattle.std.proofs.lemmas.Result.{err_from_is_err_and}
use Rattle.snap_assert.proofs.preview.preview_named.Goals as goal

pub returns-in_err-prepared-clause-stopped : goal.returns-in_err-prepared-clause-stopped
returns-in_err-prepared-clause-stopped g c =
    let told = err_from_is_err_and c.from_residual.result c.from_residual.ensures.1 in
    rw (told.1, told.2) (λ subject is. inl refl)

pub returns-clause-foreseen : goal.returns-clause-foreseen
returns-clause-foreseen g c = foreseen c.args.config.now.require_full_match c.preview_of.result c.keep_and_judge-judged.result (settings_of c.args.settings.now) (place_of c.args.place.now) c.args.name.now c.args.asserted c.in_ok-prepared.prepared (g.S.Store.files c.args.store.now) c.in_ok-prepared.ensures
    c.keep_and_judge-judged.ensures.judged c.preview_of.ensures.path c.preview_of.ensures.contents c.preview_of.ensures.judged
