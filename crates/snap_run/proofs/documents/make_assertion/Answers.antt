use Rattle.snap_run.proofs.Prelude.{refl, ap, ◌∙◌, inl, Some, words_of}
use Rattle.std.proofs.lemmas.Result.{err_from_is_err_and}
use Rattle.std.specs.Option.{option_copied}
use Rattle.snap_store.specs.Meta.{shown_text}
use Rattle.snap_assert_place.specs.Place.{place_of}
use Rattle.snap_assert_settings.specs.Settings.{SettingsView, settings_of}
use Rattle.snap_assert.specs.Session.{session_of}
use Rattle.snap_run.proofs.DocumentEnds.{none_begun, printed_is, assertion_is, made, in_work, own_in, refused_stops, stopped_by, halted_by, refused_count}
use Rattle.snap_run_requests.specs.RequestOf.{assertion_of}
use Rattle.snap_run.proofs.documents.make_assertion.Goals as goal

pub returns-in_default-clause-err : goal.returns-in_default-clause-err
returns-in_default-clause-err g c = λ known held. inl (none_begun _ _ _ _ _ refl)

pub returns-in_default-place_of_request-clause-err : goal.returns-in_default-place_of_request-clause-err
returns-in_default-place_of_request-clause-err g c = λ known held. inl (none_begun _ _ _ _ _ refl)

pub returns-clause-ok : goal.returns-clause-ok
returns-clause-ok g c = λ known held.
    let a = assertion_of c.args.assertion in
    let words = words_of c.args.runner.now in
    let settings = settings_of c.set_snapshot_suffix.new.self in
    let place = place_of c.in-Ok-place_of_request.place in
    let given = option_copied c.given_name.result in
    let suffixed : SettingsView → SettingsView = λ s. record s { suffix = shown_text (Some c.args.assertion.suffix) } in
    let new = c.set_snapshot_suffix.ensures.settings ∙ ap suffixed c.in-Ok.ensures.settings in
    let answered = c.in_ok-outcome.ensures.answered in
    let printed = printed_is _ c.set_snapshot_suffix.new.self c.args.assertion.redactions.items a answered.0 new
    (c.set_snapshot_suffix.ensures.redactions ∙ c.in-Ok.ensures.redactions) refl answered.1 in
    made c.args.runner.now a _ _ _ _ (g.F.Store.files c.args.store.now) known _ (assertion_is settings place given words a answered.0 new c.in-Ok-place_of_request.ensures c.given_name.ensures printed) (λ m told. (held m told).0) (answered.2 known held)
    (in_work settings place given words a (session_of c.args.session.now) _ _ new c.in-Ok-place_of_request.ensures c.given_name.ensures
    c.in_ok-outcome.ensures.kept (λ refused is. ap g.F.Store.files (c.in_ok-outcome.ensures.untouched refused is)))

pub returns-in_err-outcome-clause-err : goal.returns-in_err-outcome-clause-err
returns-in_err-outcome-clause-err g c =
    let told = err_from_is_err_and c.from_residual.result c.from_residual.ensures.1 in
    let a = assertion_of c.args.assertion in
    let words = words_of c.args.runner.now in
    let settings = settings_of c.set_snapshot_suffix.new.self in
    let place = place_of c.in-Ok-place_of_request.place in
    let given = option_copied c.given_name.result in
    let s = session_of c.args.session.now in
    let suffixed : SettingsView → SettingsView = λ s. record s { suffix = shown_text (Some c.args.assertion.suffix) } in
    let new = c.set_snapshot_suffix.ensures.settings ∙ ap suffixed c.in-Ok.ensures.settings in
    rw (told.1, told.2) (λ known held.
    refused_stops words a s (session_of c.assert_listed-outcome.new.session) (g.F.Store.files c.args.store.now) known (g.F.Store.files c.assert_listed-outcome.new.store) c.in_err-outcome.field-0.0
    (λ m is. (held m is).0)
    (in_work settings place given words a s _ _ new c.in-Ok-place_of_request.ensures c.given_name.ensures
    c.in_err-outcome.ensures.kept (λ refused is. ap g.F.Store.files (c.in_err-outcome.ensures.untouched refused is)))
    (own_in settings place given words a s c.in_err-outcome.field-0.0 new c.in-Ok-place_of_request.ensures c.given_name.ensures c.in_err-outcome.ensures.named)
    (halted_by c.args.runner.now a settings place given c.in_err-outcome.field-0.0 (g.F.Store.files c.args.store.now) known _ c.args.listed.now _ new c.in-Ok-place_of_request.ensures c.given_name.ensures
    (λ out prints. printed_is _ c.set_snapshot_suffix.new.self c.args.assertion.redactions.items a out new (c.set_snapshot_suffix.ensures.redactions ∙ c.in-Ok.ensures.redactions) refl prints)
    held c.in_err-outcome.ensures.halted)
    (stopped_by words a settings place given c.in_err-outcome.field-0.0 (g.F.Store.files c.args.store.now) known _ c.args.listed.now _ _ new c.in-Ok-place_of_request.ensures c.given_name.ensures
    (λ out prints. printed_is _ c.set_snapshot_suffix.new.self c.args.assertion.redactions.items a out new (c.set_snapshot_suffix.ensures.redactions ∙ c.in-Ok.ensures.redactions) refl prints)
    held c.in_err-outcome.ensures.stopped))

pub returns-in_err-outcome-clause-store_count : goal.returns-in_err-outcome-clause-store_count
returns-in_err-outcome-clause-store_count g c =
    let told = err_from_is_err_and c.from_residual.result c.from_residual.ensures.1 in
    rw (told.1, told.2) (refused_count _ _ c.in_err-outcome.field-0.0 c.in_err-outcome.ensures.cause)
