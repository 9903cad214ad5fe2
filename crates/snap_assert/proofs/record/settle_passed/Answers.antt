use Rattle.snap_assert.proofs.LiteralRecords.{unchanged, changes_again}
use Rattle.std.proofs.lemmas.Result.{err_from_is_err_and}
use Rattle.snap_assert_place.specs.Place.{place_of}
use Rattle.snap_assert.proofs.Refusals.{err_weaker}
use Rattle.snap_assert.proofs.LiteralHalting.{none_passed, none_there, some_there_if, pass_halts, reading_halts}
use Rattle.snap_assert.proofs.record.settle_passed.Goals as goal

pub returns-in_err-has_records-clause-kept : goal.returns-in_err-has_records-clause-kept
returns-in_err-has_records-clause-kept g c = unchanged c.args.path.now _ _ c.has_records.ensures.same

pub returns-then-not-branch-clause-kept : goal.returns-then-not-branch-clause-kept
returns-then-not-branch-clause-kept g c = unchanged c.args.path.now _ _ c.has_records.ensures.same

pub returns-clause-kept : goal.returns-clause-kept
returns-clause-kept g c = changes_again c.args.path.now _ _ _ (unchanged c.args.path.now _ _ c.has_records.ensures.same) c.add_nothing.ensures.kept

pub returns-then-not-passed-clause-there : goal.returns-then-not-passed-clause-there
returns-then-not-passed-clause-there g c = none_passed c.args.config.now.run_id (place_of c.args.place.now) c.args.passed _ c.if-not-passed.true

pub returns-in_err-has_records-clause-halted : goal.returns-in_err-has_records-clause-halted
returns-in_err-has_records-clause-halted g c =
    let told = err_from_is_err_and c.from_residual.result c.from_residual.ensures.1 in
    rw (told.1, told.2) (λ line.
    reading_halts c.args.config.now.run_id (place_of c.args.place.now) c.args.passed c.args.path.now line c.in_err-has_records.field-0.0 _ _ c.requires c.has_records.ensures.same c.in_err-has_records.ensures.named)

pub returns-then-not-branch-clause-there : goal.returns-then-not-branch-clause-there
returns-then-not-branch-clause-there g c =
    none_there c.args.config.now.run_id (place_of c.args.place.now) c.args.passed _ c.args.path.now _ _ c.if-not-passed.false c.if-not-branch.true c.requires c.in_ok-has_records.ensures.there c.has_records.ensures.same

pub returns-clause-there : goal.returns-clause-there
returns-clause-there g c =
    some_there_if c.args.config.now.run_id (place_of c.args.place.now) c.args.passed _ c.args.path.now _ _ _ c.add_nothing.result c.if-not-passed.false c.if-not-branch.false c.requires
    c.in_ok-has_records.ensures.there c.has_records.ensures.same c.add_nothing.ensures.ok

pub returns-clause-halted : goal.returns-clause-halted
returns-clause-halted g c = err_weaker c.add_nothing.result (λ e h line.
    pass_halts c.args.config.now.run_id (place_of c.args.place.now) c.args.passed _ c.args.path.now line e _ _ _ c.if-not-passed.false c.if-not-branch.false c.requires
    c.in_ok-has_records.ensures.there c.has_records.ensures.same h) c.add_nothing.ensures.halted
