use Rattle.snap_run_requests.proofs.RedactionsRead.{one_more_read, all_read, stopped}
use Rattle.snap_run_requests.proofs.redaction_items.read_redactions.Goals as goal

pub returns-in-Err : goal.returns-in-Err
returns-in-Err c =
    stopped c.args.items.now c.loop-place.place c.index-items-place.result c.in-Err.stop c.stopped_at.result c.loop-place-test.true c.index-items-place.is c.in-Err.ensures c.stopped_at.ensures

pub loop-place-preserved : goal.loop-place-preserved
loop-place-preserved c =
    one_more_read c.args.items.now c.loop-place.place c.index-items-place.result c.loop-place.redactions.items c.push.new.self.items c.in-Ok.redaction c.loop-place-test.true
    c.index-items-place.is c.loop-place.invariant c.in-Ok.ensures c.in_ok-push-in-Ok.ensures.items

pub returns : goal.returns
returns c = all_read c.args.items.now c.loop-place.place c.loop-place.redactions.items c.loop-place-test.false c.loop-place.invariant
