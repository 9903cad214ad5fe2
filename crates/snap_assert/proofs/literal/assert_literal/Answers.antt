use Rattle.std.proofs.Common.{refl, subst}
use Rattle.std.proofs.lemmas.Result.{IfOk-weaker}
use Rattle.snap_store.specs.Views.{name_in}
use Rattle.snap_assert_settings.specs.Settings.{settings_of}
use Rattle.snap_assert_place.specs.Place.{place_of}
use Rattle.snap_assert.proofs.Refusals.{err_weaker}
use Rattle.snap_assert.proofs.LiteralRecords.{after_course, no_course, course_cause, course_at}
use Rattle.snap_assert.specs.LiteralOutcomes.{ChangesOnly}
use Rattle.snap_assert.specs.Literals.{literal_assertion_of}
use Rattle.snap_assert.specs.Relations.{asked_relation}
use Rattle.snap_assert.specs.Session.{session_of}
use Rattle.snap_assert.specs.LiteralHalts.{uncompared}
use Rattle.snap_assert.proofs.LiteralHalting.{course_halts, course_unnamed}
use Rattle.snap_assert.proofs.literal.assert_literal.Goals as goal

pub returns-in-Ok-clause-answered : goal.returns-in-Ok-clause-answered
returns-in-Ok-clause-answered g c =
    let a = literal_assertion_of (settings_of c.args.settings.now) (place_of c.args.place.now) c.args.reference.now c.args.content in
    IfOk-weaker c.assert_begun.result _ _ (λ outcome done. record {
      course = record { name = name_in c.in-Ok.literals.new; session = session_of c.begin_literal.new.session };
      course_is = c.in-Ok.ensures.course;
      remembered = refl;
      done = done a (name_in c.in-Ok.literals.new) c.in-Ok.ensures.made;
    }) c.assert_begun.ensures.done

pub returns-in-Ok-clause-stopped : goal.returns-in-Ok-clause-stopped
returns-in-Ok-clause-stopped g c =
    let a = literal_assertion_of (settings_of c.args.settings.now) (place_of c.args.place.now) c.args.reference.now c.args.content in
    err_weaker c.assert_begun.result (λ e h.
    after_course (asked_relation (g.C.Comparator.agrees c.args.comparator.now) (g.C.Comparator.agrees_fully c.args.comparator.now) c.args.config.now.require_full_match)
    c.args.config.now a _ _ (session_of c.args.session.now) _ (name_in c.in-Ok.literals.new) e c.in-Ok.ensures.course (h a (name_in c.in-Ok.literals.new) c.in-Ok.ensures.made))
    c.assert_begun.ensures.stopped

pub returns-in-Ok-clause-kept : goal.returns-in-Ok-clause-kept
returns-in-Ok-clause-kept g c =
    subst (λ path. ChangesOnly path (g.S.Store.files c.args.store.now) (g.S.Store.files c.assert_begun.new.store)) c.in-Ok.ensures.made.path c.assert_begun.ensures.kept

pub returns-in-Err-clause-stopped : goal.returns-in-Err-clause-stopped
returns-in-Err-clause-stopped g c =
    let a = literal_assertion_of (settings_of c.args.settings.now) (place_of c.args.place.now) c.args.reference.now c.args.content in
    no_course (asked_relation (g.C.Comparator.agrees c.args.comparator.now) (g.C.Comparator.agrees_fully c.args.comparator.now) c.args.config.now.require_full_match)
    c.args.config.now a _ (session_of c.args.session.now) (session_of c.begin_literal.new.session) c.in-Err.error c.in-Err.ensures.stopped

pub returns-in-Err-clause-cause : goal.returns-in-Err-clause-cause
returns-in-Err-clause-cause g c =
    let a = literal_assertion_of (settings_of c.args.settings.now) (place_of c.args.place.now) c.args.reference.now c.args.content in
    course_cause a (session_of c.args.session.now) (session_of c.begin_literal.new.session) _ c.in-Err.error c.in-Err.ensures.stopped

pub returns-in-Err-clause-named : goal.returns-in-Err-clause-named
returns-in-Err-clause-named g c =
    let a = literal_assertion_of (settings_of c.args.settings.now) (place_of c.args.place.now) c.args.reference.now c.args.content in
    course_at a (session_of c.args.session.now) (session_of c.begin_literal.new.session) _ c.in-Err.error c.in-Err.ensures.stopped

pub returns-in-Ok-clause-halted : goal.returns-in-Ok-clause-halted
returns-in-Ok-clause-halted g c =
    let a = literal_assertion_of (settings_of c.args.settings.now) (place_of c.args.place.now) c.args.reference.now c.args.content in
    err_weaker c.assert_begun.result (λ e h.
    course_halts (asked_relation (g.C.Comparator.agrees c.args.comparator.now) (g.C.Comparator.agrees_fully c.args.comparator.now) c.args.config.now.require_full_match)
    c.args.config.now a (name_in c.in-Ok.literals.new) (session_of c.args.session.now) _ e _ _ c.in-Ok.ensures.course (h a (name_in c.in-Ok.literals.new) c.in-Ok.ensures.made))
    c.assert_begun.ensures.halted

pub returns-in-Err-clause-halted : goal.returns-in-Err-clause-halted
returns-in-Err-clause-halted g c =
    let a = literal_assertion_of (settings_of c.args.settings.now) (place_of c.args.place.now) c.args.reference.now c.args.content in
    λ course is. uncompared refl (course_unnamed a (session_of c.args.session.now) (session_of c.begin_literal.new.session) c.in-Err.error c.in-Err.ensures.stopped)
