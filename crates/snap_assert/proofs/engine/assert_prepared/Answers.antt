use Rattle.snap_assert.proofs.Prelude.{◌∙◌, sym, ap, subst, some_same, place_of, key_under, step, IsCovered}
use Rattle.snap_assert.specs.Blocks.{keep_step}
use Rattle.snap_assert.specs.Session.{session_of}
use Rattle.snap_assert.specs.Subjects.{extension_in}
use Rattle.std.proofs.lemmas.Result.{err_from_is_err_and}
use Rattle.snap_assert.proofs.Refusals.{work_stops, stops_as, error_cause}
use Rattle.snap_assert.proofs.Covering.{covers_step}
use Rattle.snap_assert.proofs.Settling.{own_refused, kept_both}
use Rattle.snap_assert.proofs.Halting.{leaving_halts}
use Rattle.snap_assert.proofs.engine.assert_prepared.Goals as goal

pub returns-in_err-judged-clause-stopped : goal.returns-in_err-judged-clause-stopped
returns-in_err-judged-clause-stopped g c =
    let told = err_from_is_err_and c.from_residual.result c.from_residual.ensures.1 in
    rw (told.1, told.2) (λ asked prepared known held. work_stops _ _ _ _ _ c.in_err-judged.field-0.0 c.in_err-judged.ensures.cause)

pub returns-in_err-judged-clause-kept : goal.returns-in_err-judged-clause-kept
returns-in_err-judged-clause-kept g c = λ asked prepared. c.in_err-judged.ensures.kept asked c.args.config.now.update prepared

pub returns-in_err-judged-clause-named : goal.returns-in_err-judged-clause-named
returns-in_err-judged-clause-named g c = λ asked prepared. own_refused c.args.config.now.update asked.path c.from_residual.result c.in_err-judged.field-0.0 c.from_residual.ensures.1 (c.in_err-judged.ensures.named asked c.args.config.now.update prepared)

pub returns-in_err-judged-clause-cause : goal.returns-in_err-judged-clause-cause
returns-in_err-judged-clause-cause g c =
    let told = err_from_is_err_and c.from_residual.result c.from_residual.ensures.1 in
    rw (told.1, told.2) (error_cause _ _ c.in_err-judged.field-0.0 c.in_err-judged.ensures.cause)

pub returns-in_err-keep_and_settle-clause-stopped : goal.returns-in_err-keep_and_settle-clause-stopped
returns-in_err-keep_and_settle-clause-stopped g c =
    let told = err_from_is_err_and c.from_residual-in_err-keep_and_settle.result c.from_residual-in_err-keep_and_settle.ensures.1 in
    rw (told.1, told.2) (λ asked prepared known held. stops_as _ _ _ _ _ _ c.in_err-keep_and_settle.field-0.0
    (λ same m is. same ∙ c.in_ok-judged.ensures.cleared asked prepared m (held m is).0 (held m is).1)
    (ap (λ contents. keep_step (key_under (place_of c.args.place.now) c.args.name.now) contents (session_of c.args.session.now)) prepared.contents)
    c.in_err-keep_and_settle.ensures.stopped)

pub returns-in_err-keep_and_settle-clause-kept : goal.returns-in_err-keep_and_settle-clause-kept
returns-in_err-keep_and_settle-clause-kept g c = λ asked prepared.
    kept_both (extension_in asked.subject) c.args.config.now.update asked.path _ _ _ (c.in_ok-judged.ensures.kept asked c.args.config.now.update prepared) (c.in_err-keep_and_settle.ensures.kept asked prepared)

pub returns-in_err-keep_and_settle-clause-named : goal.returns-in_err-keep_and_settle-clause-named
returns-in_err-keep_and_settle-clause-named g c = λ asked prepared. own_refused c.args.config.now.update asked.path c.from_residual-in_err-keep_and_settle.result c.in_err-keep_and_settle.field-0.0 c.from_residual-in_err-keep_and_settle.ensures.1
    (c.in_err-keep_and_settle.ensures.named asked prepared)

pub returns-clause-kept : goal.returns-clause-kept
returns-clause-kept g c = λ asked prepared.
    kept_both (extension_in asked.subject) c.args.config.now.update asked.path _ _ _ (c.in_ok-judged.ensures.kept asked c.args.config.now.update prepared) (c.in_ok-keep_and_settle.ensures.kept asked prepared)

pub returns-clause-remembered : goal.returns-clause-remembered
returns-clause-remembered g c = λ asked prepared.
    sym (ap (λ contents. keep_step (key_under (place_of c.args.place.now) c.args.name.now) contents (session_of c.args.session.now)) prepared.contents)
    ∙ c.in_ok-keep_and_settle.ensures.remembered

pub returns-clause-settled : goal.returns-clause-settled
returns-clause-settled g c = λ asked prepared m told covered. record {
  compared = c.in_ok-judged.ensures.judged asked prepared m told covered;
  stands = c.in_ok-keep_and_settle.ensures.ok asked m prepared (c.in_ok-judged.ensures.cleared asked prepared m told covered);
}

pub returns-clause-covered : goal.returns-clause-covered
returns-clause-covered g c = λ asked prepared none m told covered n now.
    let mode = c.args.config.now.update in
    let force = c.args.config.now.force_update in
    let passed = c.in_ok-judged.judged.passed in
    let step_is = c.in_ok-keep_and_settle.ensures.ok asked m prepared (c.in_ok-judged.ensures.cleared asked prepared m told covered) in
    subst (λ k. IsCovered k c.look_and_clear.new.listed) (some_same (step mode force asked passed m) n (sym step_is ∙ now))
    (covers_step mode force asked passed m _ _ none (c.in_ok-judged.ensures.covered asked prepared m told covered))

pub returns-in_err-judged-clause-halted : goal.returns-in_err-judged-clause-halted
returns-in_err-judged-clause-halted g c =
    let told = err_from_is_err_and c.from_residual.result c.from_residual.ensures.1 in
    rw (told.1, told.2) (λ asked prepared known held. c.in_err-judged.ensures.halted asked prepared c.args.config.now known held)

pub returns-in_err-keep_and_settle-clause-halted : goal.returns-in_err-keep_and_settle-clause-halted
returns-in_err-keep_and_settle-clause-halted g c =
    let told = err_from_is_err_and c.from_residual-in_err-keep_and_settle.result c.from_residual-in_err-keep_and_settle.ensures.1 in
    rw (told.1, told.2) (λ asked prepared known held.
    leaving_halts _ c.args.config.now asked c.in_err-keep_and_settle.field-0.0 known _ _ _ c.in_ok-judged.judged.passed c.in_ok-judged.ensures.gone.0 (λ m told. (held m told).0)
    (c.in_ok-judged.ensures.gone.1 asked prepared)
    (λ m told. record {
      passes = (_, c.in_ok-judged.ensures.judged asked prepared m (held m told).0 (held m told).1);
      left = c.in_ok-judged.ensures.gone.2 asked prepared m (held m told).0 (held m told).1;
    })
    c.in_ok-judged.ensures.gone.3 (c.in_err-keep_and_settle.ensures.halted asked prepared))
