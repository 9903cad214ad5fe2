use Rattle.snap_assert.proofs.Prelude.{sym, ◌∙◌, subst, chars, IfOk-weaker, settings_of, place_of}
use Rattle.snap_assert.specs.Names.{RefusedAs}
use Rattle.snap_assert.specs.Session.{session_of}
use Rattle.snap_assert.proofs.NameSteps.{automatic_is}
use Rattle.snap_assert.proofs.Refusals.{err_weaker}
use Rattle.snap_assert.proofs.names.take_automatic.Goals as goal

pub returns-clause-ok : goal.returns-clause-ok
returns-clause-ok g c =
    let same = automatic_is (settings_of c.args.settings.now) (place_of c.args.place.now) (chars c.as_str.result.now) c.is_doctest_function.result
    (session_of c.args.session.now) (c.as_str.ensures ∙ c.function.ensures) c.is_doctest_function.ensures c.if-is_doctest_function.false in
    IfOk-weaker c.take_function_name.result _ _ (λ name h. sym same ∙ h) c.take_function_name.ensures.ok

pub returns-clause-err : goal.returns-clause-err
returns-clause-err g c =
    let same = automatic_is (settings_of c.args.settings.now) (place_of c.args.place.now) (chars c.as_str.result.now) c.is_doctest_function.result
    (session_of c.args.session.now) (c.as_str.ensures ∙ c.function.ensures) c.is_doctest_function.ensures c.if-is_doctest_function.false in
    err_weaker c.take_function_name.result (λ e h. subst (RefusedAs e) same h) c.take_function_name.ensures.err
