use Rattle.snap_demo.proofs.Turns.{tags_begin, tags_go_on, tags_end}
use Rattle.snap_demo.proofs.values.tags.Goals as goal

pub loop-number-init : goal.loop-number-init
loop-number-init c = tags_begin _ _ c.new-items.ensures

pub loop-number-preserved : goal.loop-number-preserved
loop-number-preserved c = tags_go_on _ _ c.in_ok-tag.field-0 c.loop-number.number c.args.count _ c.loop-number-test.true c.in_ok-push.ensures.ok c.in_ok-tag.ensures c.loop-number.invariant

pub returns : goal.returns
returns c = tags_end _ c.loop-number.number c.args.count _ c.loop-number-test.false c.loop-number.invariant
