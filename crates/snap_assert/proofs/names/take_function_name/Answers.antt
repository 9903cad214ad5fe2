use Rattle.snap_assert.proofs.Prelude.{sym, ◌∙◌, subst, chars, IfOk-weaker, settings_of, place_of}
use Rattle.snap_assert.specs.Names.{RefusedAs}
use Rattle.snap_assert.specs.Session.{session_of}
use Rattle.snap_assert.proofs.NameSteps.{function_is}
use Rattle.snap_assert.proofs.Refusals.{err_weaker}
use Rattle.snap_assert.proofs.names.take_function_name.Goals as goal

pub returns-clause-ok : goal.returns-clause-ok
returns-clause-ok g c =
    let same = function_is (settings_of c.args.settings.now) (place_of c.args.place.now) c.in_ok-key.key (chars c.as_str.result.now) c.is_test_function.result
    (session_of c.args.session.now) (c.as_str.ensures ∙ c.function.ensures) c.in_ok-key.ensures c.is_test_function.ensures in
    IfOk-weaker c.take_counted.result _ _ (λ name h. sym same ∙ h) c.take_counted.ensures.ok

pub returns-clause-err : goal.returns-clause-err
returns-clause-err g c =
    let same = function_is (settings_of c.args.settings.now) (place_of c.args.place.now) c.in_ok-key.key (chars c.as_str.result.now) c.is_test_function.result
    (session_of c.args.session.now) (c.as_str.ensures ∙ c.function.ensures) c.in_ok-key.ensures c.is_test_function.ensures in
    err_weaker c.take_counted.result (λ e h. subst (RefusedAs e) same h) c.take_counted.ensures.err
