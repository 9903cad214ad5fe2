use Rattle.snap_assert.proofs.Prelude.{◌∙◌, refl, sym, ap, subst, place_of, key_under}
use Rattle.snap_assert.specs.Blocks.{keep_step}
use Rattle.snap_assert.specs.Names.{RefusedAs}
use Rattle.snap_assert.specs.Session.{session_of}
use Rattle.snap_assert.specs.Subjects.{extension_in}
use Rattle.std.proofs.lemmas.Result.{err_from_is_err_and}
use Rattle.snap_assert.proofs.Refusals.{refused_stops, refused_own, refused_cause, settled_stops, work_cause}
use Rattle.snap_assert.proofs.Settling.{unwritten_with, own_refused}
use Rattle.snap_assert.proofs.Halting.{refused_stands}
use Rattle.snap_assert.proofs.engine.keep_and_settle.Goals as goal

pub returns-in_err-keep-clause-stopped : goal.returns-in_err-keep-clause-stopped
returns-in_err-keep-clause-stopped g c =
    let told = err_from_is_err_and c.from_residual.result c.from_residual.ensures.1 in
    rw (told.1, told.2) (refused_stops _ _ _ _ c.in_err-keep.field-0.0
    (subst (λ contents. RefusedAs c.in_err-keep.field-0.0 (keep_step (key_under (place_of c.args.place.now) c.args.name.now) contents (session_of c.args.session.now))) c.contents.ensures c.in_err-keep.ensures.err)
    c.in_err-keep.ensures.same refl)

pub returns-in_err-keep-clause-kept : goal.returns-in_err-keep-clause-kept
returns-in_err-keep-clause-kept g c = λ asked prepared. unwritten_with (extension_in asked.subject) c.args.config.now.update asked.path _ _ refl

pub returns-in_err-keep-clause-named : goal.returns-in_err-keep-clause-named
returns-in_err-keep-clause-named g c = λ asked prepared. own_refused c.args.config.now.update asked.path c.from_residual.result c.in_err-keep.field-0.0 c.from_residual.ensures.1
    (refused_own c.args.config.now.update asked.path _ c.in_err-keep.field-0.0 c.in_err-keep.ensures.err)

pub returns-in_err-keep-clause-cause : goal.returns-in_err-keep-clause-cause
returns-in_err-keep-clause-cause g c =
    let told = err_from_is_err_and c.from_residual.result c.from_residual.ensures.1 in
    rw (told.1, told.2) (refused_cause _ _ c.in_err-keep.field-0.0 c.in_err-keep.ensures.err)

pub returns-clause-stopped : goal.returns-clause-stopped
returns-clause-stopped g c =
    settled_stops _ _ _ _ _ _ c.settle.result
    (sym (ap (λ contents. keep_step (key_under (place_of c.args.place.now) c.args.name.now) contents (session_of c.args.session.now)) c.contents.ensures) ∙ c.in_ok-keep.ensures.ok)
    c.settle.ensures.cause

pub returns-clause-cause : goal.returns-clause-cause
returns-clause-cause g c = work_cause _ _ c.settle.result c.settle.ensures.cause

pub returns-in_err-keep-clause-halted : goal.returns-in_err-keep-clause-halted
returns-in_err-keep-clause-halted g c =
    let told = err_from_is_err_and c.from_residual.result c.from_residual.ensures.1 in
    rw (told.1, told.2) (λ asked prepared. refused_stands _ _ c.in_err-keep.field-0.0 _ c.in_err-keep.ensures.err)
