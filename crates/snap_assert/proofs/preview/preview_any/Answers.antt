use Rattle.snap_assert.proofs.Prelude.{settings_of, place_of, None}
use Rattle.std.specs.Option.{option_copied}
use Rattle.snap_assert.specs.Assertions.{assertion_about}
use Rattle.snap_assert.specs.Session.{session_of}
use Rattle.snap_assert.proofs.Foreseeing.{previewed, untold_stops}
use Rattle.snap_assert.proofs.Refusals.{name_stops, named_stops, refused_cause, err_weaker, done_and_kept}
use Rattle.snap_assert.proofs.preview.preview_any.Goals as goal

pub returns-in-Err-clause-stopped : goal.returns-in-Err-clause-stopped
returns-in-Err-clause-stopped g c = λ subject is.
    name_stops (assertion_about (settings_of c.args.settings.now) (place_of c.args.place.now) (option_copied c.args.given) subject) None None (session_of c.args.session.now) _ c.in-Err.error c.in-Err.ensures.err c.in-Err.ensures.same (λ m told. told)

pub returns-in-Err-clause-cause : goal.returns-in-Err-clause-cause
returns-in-Err-clause-cause g c = refused_cause _ _ c.in-Err.error c.in-Err.ensures.err

pub returns-in-Ok-clause-previewed : goal.returns-in-Ok-clause-previewed
returns-in-Ok-clause-previewed g c =
    done_and_kept c.preview_named-preview.result (λ preview seen kept subject is.
    previewed c.args.config.now.require_full_match (assertion_about (settings_of c.args.settings.now) (place_of c.args.place.now) (option_copied c.args.given) subject) preview (g.S.Store.files c.args.store.now) (session_of c.args.session.now) _ _ c.in-Ok.name c.in-Ok.ensures.ok (kept subject is) (seen subject is))
    c.preview_named-preview.ensures.foreseen c.preview_named-preview.ensures.remembered

pub returns-in-Ok-clause-stopped : goal.returns-in-Ok-clause-stopped
returns-in-Ok-clause-stopped g c =
    err_weaker c.preview_named-preview.result (λ error stops subject is.
    named_stops (assertion_about (settings_of c.args.settings.now) (place_of c.args.place.now) (option_copied c.args.given) subject) None None (session_of c.args.session.now) _ _ c.in-Ok.name error c.in-Ok.ensures.ok (untold_stops _ _ _ _ error (stops subject is)))
    c.preview_named-preview.ensures.stopped
