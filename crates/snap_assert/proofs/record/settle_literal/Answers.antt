use Rattle.snap_assert.proofs.LiteralRecords.{changes_again}
use Rattle.std.proofs.lemmas.Result.{err_from_is_err_and}
use Rattle.snap_assert_place.specs.Place.{place_of}
use Rattle.snap_assert.proofs.Refusals.{err_weaker}
use Rattle.snap_assert.proofs.LiteralHalting.{later_halts}
use Rattle.snap_assert.proofs.record.settle_literal.Goals as goal

pub returns-clause-kept : goal.returns-clause-kept
returns-clause-kept g c = changes_again c.args.path.now _ _ _ c.settle_passed.ensures.kept c.settle_line.ensures.kept

pub returns-in_err-settle_passed-clause-halted : goal.returns-in_err-settle_passed-clause-halted
returns-in_err-settle_passed-clause-halted g c =
    let told = err_from_is_err_and c.from_residual.result c.from_residual.ensures.1 in
    rw (told.1, told.2) (c.in_err-settle_passed.ensures.halted c.args.line.now)

pub returns-clause-halted : goal.returns-clause-halted
returns-clause-halted g c = err_weaker c.settle_line.result (λ e h.
    later_halts c.args.config.now.run_id (place_of c.args.place.now) c.args.passed c.args.line.now e _ _ _ c.in_ok-settle_passed.ensures.there h) c.settle_line.ensures.halted
