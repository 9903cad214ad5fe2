use Rattle.snap_assert_place.specs.Place.{place_of}
use Rattle.snap_assert.specs.Halts.{named_by}
use Rattle.snap_assert.proofs.Refusals.{err_weaker}
use Rattle.snap_assert.proofs.LiteralHalting.{some_line}
use Rattle.snap_assert.proofs.record.settle_line.Goals as goal

pub returns-in-Some-clause-halted : goal.returns-in-Some-clause-halted
returns-in-Some-clause-halted g c = err_weaker c.add_line.result (λ e h.
    some_line (place_of c.args.place.now) c.args.path.now _ c.args.line.now (named_by e) _ _ c.requires c.in-Some.is h) c.add_line.ensures.halted
