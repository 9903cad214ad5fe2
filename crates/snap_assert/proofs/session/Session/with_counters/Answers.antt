use Rattle.snap_assert.proofs.Prelude.{empty_session}
use Rattle.snap_assert.proofs.Counters.{one_more, all_set}
use Rattle.snap_assert.proofs.session.Session.with_counters.Goals as goal

pub loop-counter-preserved : goal.loop-counter-preserved
loop-counter-preserved c =
    one_more c.args.counters.now c.loop-counter.counter-index c.counter-item.result empty_session _ _ c.loop-counter-test.true c.counter-item.is c.loop-counter.invariant c.in_ok-set_counter.ensures

pub returns : goal.returns
returns c = all_set c.args.counters.now _ empty_session _ c.loop-counter-test.false c.loop-counter.invariant
