use Rattle.snap_assert.proofs.Prelude.{◌≡◌, Ok, Err, refl, sym, subst, IfOk-weaker, settings_of, place_of}
use Rattle.snap_assert.specs.Assertions.{payload_assertion_of}
use Rattle.snap_assert.specs.Kept.{KeptWith}
use Rattle.snap_assert.specs.Names.{name_step}
use Rattle.snap_assert.specs.Outcomes.{IsStopped}
use Rattle.snap_assert.specs.Session.{session_of}
use Rattle.snap_assert_place.specs.SnapshotPath.{path_of}
use Rattle.snap_assert.proofs.Extensions.{answered_as, payload_stops, not_bad, of_either}
use Rattle.snap_assert.proofs.Refusals.{err_weaker}
use Rattle.snap_assert.proofs.Settling.{unwritten_with}
use Rattle.snap_assert.specs.Relations.{asked_relation}
use Rattle.snap_assert.proofs.LiteralHalting.{payload_halts, bad_halts}
use Rattle.snap_assert.proofs.snapshot.assert_binary.Goals as goal

pub returns-in-Some-clause-answered : goal.returns-in-Some-clause-answered
returns-in-Some-clause-answered g c =
    IfOk-weaker c.assert_payload.result _ _ (λ outcome h. record {
      told = c.in-Some.extension;
      told_is = c.in-Some.ensures.0;
      good = c.in-Some.ensures.1;
      answered = answered_as _ c.args.config.now (settings_of c.args.settings.now) (place_of c.args.place.now) _ _ c.in-Some.extension c.args.content outcome _ _ _ _ c.given_name-given.ensures h;
    }) c.assert_payload.ensures.answered

pub returns-in-Some-clause-stopped : goal.returns-in-Some-clause-stopped
returns-in-Some-clause-stopped g c =
    let settings = settings_of c.args.settings.now in
    let place = place_of c.args.place.now in
    err_weaker c.assert_payload.result (λ error h. payload_stops settings place c.args.name.now c.args.content c.args.extension c.in-Some.extension error _ _ _ _ c.in-Some.ensures.0 c.in-Some.ensures.1
    (subst (λ n. IsStopped (payload_assertion_of settings place n c.in-Some.extension c.args.content) error (g.S.Store.files c.args.store.now) (g.S.Store.files c.assert_payload.new.store)
    (session_of c.args.session.now) (session_of c.assert_payload.new.session)) c.given_name-given.ensures h)) c.assert_payload.ensures.stopped

pub returns-in-Some-clause-untouched : goal.returns-in-Some-clause-untouched
returns-in-Some-clause-untouched g c = of_either (not_bad c.args.extension c.in-Some.ensures.1) (λ refused. c.assert_payload.ensures.untouched refused.0
    (subst (λ n. name_step (settings_of c.args.settings.now) (place_of c.args.place.now) n (session_of c.args.session.now) ≡ Err refused.0) (sym c.given_name-given.ensures) refused.1))

pub returns-in-Some-clause-kept : goal.returns-in-Some-clause-kept
returns-in-Some-clause-kept g c = λ named takes.
    subst (λ e. KeptWith e c.args.config.now.update (path_of (settings_of c.args.settings.now) (place_of c.args.place.now) named.name) (g.S.Store.files c.args.store.now) (g.S.Store.files c.assert_payload.new.store)) (sym c.in-Some.ensures.0)
    (c.assert_payload.ensures.kept named
    (subst (λ n. name_step (settings_of c.args.settings.now) (place_of c.args.place.now) n (session_of c.args.session.now) ≡ Ok named) (sym c.given_name-given.ensures) takes))

pub returns-in-Some-clause-named : goal.returns-in-Some-clause-named
returns-in-Some-clause-named g c = λ named takes. c.assert_payload.ensures.named named
    (subst (λ n. name_step (settings_of c.args.settings.now) (place_of c.args.place.now) n (session_of c.args.session.now) ≡ Ok named) (sym c.given_name-given.ensures) takes)

pub returns-in-None-clause-kept : goal.returns-in-None-clause-kept
returns-in-None-clause-kept g c = λ named takes. unwritten_with c.args.extension c.args.config.now.update (path_of (settings_of c.args.settings.now) (place_of c.args.place.now) named.name) _ _ refl

pub returns-in-Some-clause-halted : goal.returns-in-Some-clause-halted
returns-in-Some-clause-halted g c =
    err_weaker c.assert_payload.result (λ error h.
    payload_halts (asked_relation (g.C.Comparator.agrees c.args.comparator.now) (g.C.Comparator.agrees_fully c.args.comparator.now) c.args.config.now.require_full_match)
    c.args.config.now (settings_of c.args.settings.now) (place_of c.args.place.now) _ c.args.name.now c.args.content c.args.extension c.in-Some.extension error
    (g.S.Store.files c.args.store.now) (g.S.Store.files c.assert_payload.new.store) (session_of c.args.session.now) c.in-Some.ensures.0 c.given_name-given.ensures h) c.assert_payload.ensures.halted

pub returns-in-None-clause-halted : goal.returns-in-None-clause-halted
returns-in-None-clause-halted g c = bad_halts _ c.args.config.now (settings_of c.args.settings.now) (place_of c.args.place.now) c.args.name.now c.args.content c.args.extension _ _ _ _ c.in-None.ensures
