use Rattle.std.proofs.lemmas.Result.{err_from_is_err_and}
use Rattle.snap_assert.specs.Halts.{named_by}
use Rattle.snap_assert.proofs.Refusals.{err_weaker}
use Rattle.snap_assert.proofs.LiteralHalting.{line_as, memory_stands}
use Rattle.snap_assert.proofs.record.add_nothing.Goals as goal

pub returns-in_err-line-clause-halted : goal.returns-in_err-line-clause-halted
returns-in_err-line-clause-halted g c =
    let told = err_from_is_err_and c.from_residual.result c.from_residual.ensures.1 in
    rw (told.1, told.2) (memory_stands _ c.in_err-line.field-0.0 _ c.in_err-line.ensures.memory)

pub returns-clause-halted : goal.returns-clause-halted
returns-clause-halted g c =
    err_weaker c.add_line.result (λ e h. line_as c.args.path.now _ _ (named_by e) _ _ c.in_ok-line.ensures.line h) c.add_line.ensures.halted
