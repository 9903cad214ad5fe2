use Rattle.snap_run.proofs.Prelude.{refl, ap, ◌∙◌, inl, Some, words_of}
use Rattle.std.specs.Option.{option_copied}
use Rattle.snap_store.specs.Meta.{shown_text}
use Rattle.snap_assert_place.specs.Place.{place_of}
use Rattle.snap_assert_settings.specs.Settings.{SettingsView, settings_of}
use Rattle.snap_assert.specs.Session.{session_of}
use Rattle.snap_run.proofs.DocumentEnds.{printed_is}
use Rattle.snap_run.proofs.Foretelling.{previewed_by, stopped_before}
use Rattle.snap_run_requests.specs.RequestOf.{assertion_of}
use Rattle.snap_run.proofs.previewing.preview_assertion.Goals as goal

pub returns-in_default-clause-stopped : goal.returns-in_default-clause-stopped
returns-in_default-clause-stopped g c = inl refl

pub returns-in_default-place_of_request-clause-stopped : goal.returns-in_default-place_of_request-clause-stopped
returns-in_default-place_of_request-clause-stopped g c = inl refl

pub returns-clause-previewed : goal.returns-clause-previewed
returns-clause-previewed g c =
    let a = assertion_of c.args.assertion in
    let suffixed : SettingsView → SettingsView = λ s. record s { suffix = shown_text (Some c.args.assertion.suffix) } in
    let new = c.set_snapshot_suffix.ensures.settings ∙ ap suffixed c.in-Ok.ensures.settings in
    previewed_by c.args.runner.now.config.require_full_match c.preview_content-preview.result (words_of c.args.runner.now) a (settings_of c.set_snapshot_suffix.new.self) (place_of c.in-Ok-place_of_request.place) (option_copied c.given_name.result)
    (g.F.Store.files c.args.store.now) (session_of c.args.session.now) _ new c.in-Ok-place_of_request.ensures c.given_name.ensures
    (λ out prints. printed_is _ c.set_snapshot_suffix.new.self c.args.assertion.redactions.items a out new (c.set_snapshot_suffix.ensures.redactions ∙ c.in-Ok.ensures.redactions) refl prints)
    c.preview_content-preview.ensures.previewed

pub returns-clause-stopped : goal.returns-clause-stopped
returns-clause-stopped g c =
    let a = assertion_of c.args.assertion in
    let suffixed : SettingsView → SettingsView = λ s. record s { suffix = shown_text (Some c.args.assertion.suffix) } in
    let new = c.set_snapshot_suffix.ensures.settings ∙ ap suffixed c.in-Ok.ensures.settings in
    stopped_before c.preview_content-preview.result (words_of c.args.runner.now) a (settings_of c.set_snapshot_suffix.new.self) (place_of c.in-Ok-place_of_request.place) (option_copied c.given_name.result)
    (session_of c.args.session.now) _ new c.in-Ok-place_of_request.ensures c.given_name.ensures
    (λ out prints. printed_is _ c.set_snapshot_suffix.new.self c.args.assertion.redactions.items a out new (c.set_snapshot_suffix.ensures.redactions ∙ c.in-Ok.ensures.redactions) refl prints)
    c.preview_content-preview.ensures.stopped
