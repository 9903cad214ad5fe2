use Rattle.snap_demo.proofs.Turns.{input_begins, input_goes_on, input_ends}
use Rattle.snap_demo.proofs.input.demo_input.Goals as goal

pub loop-index-init : goal.loop-index-init
loop-index-init c = input_begins _ _ _ c.empty-text.ensures

pub loop-index-preserved : goal.loop-index-preserved
loop-index-preserved c = input_goes_on _ _ c.loop-index.index c.loop-index.number _ c.args.count _ c.loop-index-test.true c.in_ok-push_request.ensures c.next-number.ensures c.loop-index.invariant

pub returns : goal.returns
returns c = input_ends _ c.loop-index.index c.loop-index.number c.args.count _ c.loop-index-test.false c.loop-index.invariant
