use Rattle.std.proofs.lemmas.Result.{err_from_is_err_and}
use Rattle.snap_assert.proofs.literal.answer.Goals as goal

pub returns-in_err-settle_literal-clause-halted : goal.returns-in_err-settle_literal-clause-halted
returns-in_err-settle_literal-clause-halted g c =
    let told = err_from_is_err_and c.from_residual.result c.from_residual.ensures.1 in
    rw (told.1, told.2) c.in_err-settle_literal.ensures.halted
