use Rattle.snap_assert.proofs.Prelude.{refl, subst, settings_of, place_of, NamesOwn}
use Rattle.std.specs.Option.{option_copied}
use Rattle.snap_assert.specs.Assertions.{assertion_about}
use Rattle.snap_assert.specs.Kept.{KeptWith}
use Rattle.snap_assert.specs.Session.{session_of}
use Rattle.snap_assert.specs.Subjects.{extension_in}
use Rattle.snap_assert_place.specs.SnapshotPath.{path_of}
use Rattle.snap_assert.proofs.Refusals.{name_stops, named_stops, answered, one_named, refused_own, refused_cause, err_weaker, done_and_kept, not_both}
use Rattle.snap_assert.proofs.Settling.{unwritten_with}
use Rattle.snap_assert.specs.Halts.{looking}
use Rattle.snap_assert.proofs.Halting.{named_halts, refused_looks}
use Rattle.snap_assert.proofs.engine.assert_any.Goals as goal

pub returns-in-Err-clause-stopped : goal.returns-in-Err-clause-stopped
returns-in-Err-clause-stopped g c = λ subject is known held.
    let a = assertion_about (settings_of c.args.settings.now) (place_of c.args.place.now) (option_copied c.args.given) subject in
    name_stops a known (g.S.Store.files c.args.store.now) (session_of c.args.session.now) _ c.in-Err.error c.in-Err.ensures.err c.in-Err.ensures.same (λ m told. (held m told).0)

pub returns-in-Err-clause-kept : goal.returns-in-Err-clause-kept
returns-in-Err-clause-kept g c = λ subject is named takes. unwritten_with (extension_in subject) _ _ _ _ refl

pub returns-in-Err-clause-named : goal.returns-in-Err-clause-named
returns-in-Err-clause-named g c = λ subject is named takes. refused_own c.args.config.now.update _ _ c.in-Err.error c.in-Err.ensures.err

pub returns-in-Err-clause-cause : goal.returns-in-Err-clause-cause
returns-in-Err-clause-cause g c = refused_cause _ _ c.in-Err.error c.in-Err.ensures.err

pub returns-in-Ok-clause-answered : goal.returns-in-Ok-clause-answered
returns-in-Ok-clause-answered g c =
    done_and_kept c.assert_named-outcome.result (λ outcome done kept subject is known held.
    answered _ c.args.config.now (assertion_about (settings_of c.args.settings.now) (place_of c.args.place.now) (option_copied c.args.given) subject) outcome known (g.S.Store.files c.assert_named-outcome.new.store) (session_of c.args.session.now) _ _ c.in-Ok.name c.in-Ok.ensures.ok (kept subject is) (done subject is known held))
    c.assert_named-outcome.ensures.done c.assert_named-outcome.ensures.remembered

pub returns-in-Ok-clause-stopped : goal.returns-in-Ok-clause-stopped
returns-in-Ok-clause-stopped g c =
    err_weaker c.assert_named-outcome.result (λ error stops subject is known held.
    named_stops (assertion_about (settings_of c.args.settings.now) (place_of c.args.place.now) (option_copied c.args.given) subject) known (g.S.Store.files c.assert_named-outcome.new.store) (session_of c.args.session.now) _ _ c.in-Ok.name error c.in-Ok.ensures.ok (stops subject is known held))
    c.assert_named-outcome.ensures.stopped

pub returns-in-Ok-clause-kept : goal.returns-in-Ok-clause-kept
returns-in-Ok-clause-kept g c = λ subject is named takes.
    subst (λ n. KeptWith (extension_in subject) c.args.config.now.update (path_of (settings_of c.args.settings.now) (place_of c.args.place.now) n.name) (g.S.Store.files c.args.store.now) (g.S.Store.files c.assert_named-outcome.new.store))
    (one_named _ _ _ c.in-Ok.ensures.ok takes) (c.assert_named-outcome.ensures.kept subject is)

pub returns-in-Ok-clause-named : goal.returns-in-Ok-clause-named
returns-in-Ok-clause-named g c = λ subject is named takes.
    subst (λ n. NamesOwn c.args.config.now.update (path_of (settings_of c.args.settings.now) (place_of c.args.place.now) n.name) c.assert_named-outcome.result)
    (one_named _ _ _ c.in-Ok.ensures.ok takes) (c.assert_named-outcome.ensures.named subject is)

pub returns-in-Ok-clause-untouched : goal.returns-in-Ok-clause-untouched
returns-in-Ok-clause-untouched g c = λ error refuses. not_both _ _ _ c.in-Ok.ensures.ok refuses

pub returns-in-Err-clause-halted : goal.returns-in-Err-clause-halted
returns-in-Err-clause-halted g c = λ subject is known held named takes.
    looking (λ m told. (held m told).0) (refused_looks _ known _ c.in-Err.error c.in-Err.ensures.err)

pub returns-in-Ok-clause-halted : goal.returns-in-Ok-clause-halted
returns-in-Ok-clause-halted g c =
    err_weaker c.assert_named-outcome.result (λ error halts subject is known held.
    named_halts _ c.args.config.now (assertion_about (settings_of c.args.settings.now) (place_of c.args.place.now) (option_copied c.args.given) subject) error known (g.S.Store.files c.assert_named-outcome.new.store) (session_of c.args.session.now) _ c.in-Ok.name c.in-Ok.ensures.ok (halts subject is known held))
    c.assert_named-outcome.ensures.halted
