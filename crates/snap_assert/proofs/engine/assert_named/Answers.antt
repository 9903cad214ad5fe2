use Rattle.snap_assert.proofs.Prelude.{refl, inl}
use Rattle.snap_assert.proofs.Answering.{done_by}
use Rattle.snap_assert.proofs.Settling.{unwritten_with, own_refused}
use Rattle.std.proofs.lemmas.Result.{err_from_is_err_and}
use Rattle.snap_assert.specs.Subjects.{extension_in}
use Rattle.snap_assert.specs.Halts.{looking}
use Rattle.snap_assert.proofs.engine.assert_named.Goals as goal

pub returns-in_err-prepared-clause-stopped : goal.returns-in_err-prepared-clause-stopped
returns-in_err-prepared-clause-stopped g c =
    let told = err_from_is_err_and c.from_residual.result c.from_residual.ensures.1 in
    rw (told.1, told.2) (λ subject is known held. inl refl)

pub returns-in_err-prepared-clause-kept : goal.returns-in_err-prepared-clause-kept
returns-in_err-prepared-clause-kept g c = λ subject is. unwritten_with (extension_in subject) _ _ _ _ refl

pub returns-in_err-judged-clause-stopped : goal.returns-in_err-judged-clause-stopped
returns-in_err-judged-clause-stopped g c =
    let told = err_from_is_err_and c.from_residual-in_err-judged.result c.from_residual-in_err-judged.ensures.1 in
    rw (told.1, told.2) (λ subject is. c.in_err-judged.ensures.stopped _ (c.in_ok-prepared.ensures subject is))

pub returns-in_err-judged-clause-kept : goal.returns-in_err-judged-clause-kept
returns-in_err-judged-clause-kept g c = λ subject is. c.in_err-judged.ensures.kept _ (c.in_ok-prepared.ensures subject is)

pub returns-in_err-judged-clause-named : goal.returns-in_err-judged-clause-named
returns-in_err-judged-clause-named g c = λ subject is. own_refused c.args.config.now.update _ c.from_residual-in_err-judged.result c.in_err-judged.field-0.0 c.from_residual-in_err-judged.ensures.1 (c.in_err-judged.ensures.named _ (c.in_ok-prepared.ensures subject is))

pub returns-clause-kept : goal.returns-clause-kept
returns-clause-kept g c = λ subject is. c.in_ok-judged.ensures.kept _ (c.in_ok-prepared.ensures subject is)

pub returns-clause-remembered : goal.returns-clause-remembered
returns-clause-remembered g c = λ subject is. c.in_ok-judged.ensures.remembered _ (c.in_ok-prepared.ensures subject is)

pub returns-clause-covered : goal.returns-clause-covered
returns-clause-covered g c = λ subject is none. c.in_ok-judged.ensures.covered _ (c.in_ok-prepared.ensures subject is) none

pub returns-clause-done : goal.returns-clause-done
returns-clause-done g c = λ subject is known held.
    rw c.into_path-path.ensures (done_by _ c.args.config.now _ c.in_ok-prepared.prepared c.in_ok-judged.judged _ _ _ _ known c.args.listed.now held (c.in_ok-prepared.ensures subject is) c.verdict-verdict.ensures c.fails.ensures c.in_ok-judged.ensures.settled)

pub returns-in_err-prepared-clause-halted : goal.returns-in_err-prepared-clause-halted
returns-in_err-prepared-clause-halted g c =
    let told = err_from_is_err_and c.from_residual.result c.from_residual.ensures.1 in
    rw (told.1, told.2) (λ subject is known held. looking (λ m told. (held m told).0) tt)

pub returns-in_err-judged-clause-halted : goal.returns-in_err-judged-clause-halted
returns-in_err-judged-clause-halted g c =
    let told = err_from_is_err_and c.from_residual-in_err-judged.result c.from_residual-in_err-judged.ensures.1 in
    rw (told.1, told.2) (λ subject is. c.in_err-judged.ensures.halted _ (c.in_ok-prepared.ensures subject is))
