use Rattle.std.proofs.Common.{refl}
use Rattle.snap_assert_place.specs.Place.{place_of}
use Rattle.snap_assert.specs.LiteralHalts.{unprinted}
use Rattle.snap_assert.proofs.Refusals.{err_weaker}
use Rattle.snap_assert.proofs.LiteralHalting.{judged_halts, undue_unnamed}
use Rattle.snap_assert.proofs.literal.assert_judged.Goals as goal

pub returns-in-Ok-clause-halted : goal.returns-in-Ok-clause-halted
returns-in-Ok-clause-halted g c = err_weaker c.answer.result (λ e h a reference name are.
    judged_halts c.args.config.now a (place_of c.args.place.now) reference name c.args.literals c.args.judged.passed c.in-Ok.line e _ _ are c.in-Ok.ensures.line h) c.answer.ensures.halted

pub returns-in-Err-clause-halted : goal.returns-in-Err-clause-halted
returns-in-Err-clause-halted g c = λ a reference name are. unprinted refl (undue_unnamed _ _ c.in-Err.error c.in-Err.ensures.refused)
