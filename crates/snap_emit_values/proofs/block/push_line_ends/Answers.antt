use Rattle.snap_emit_values.proofs.Prelude.{IsBegun, line_ends}
use Rattle.snap_emit_values.proofs.Begun.{on_err}
use Rattle.snap_emit_values.proofs.LineEnds.{ends-begun, ends-more}
use Rattle.snap_emit_values.proofs.block.push_line_ends.Goals as goal

pub returns-in_err-push-clause-err : goal.returns-in_err-push-clause-err
returns-in_err-push-clause-err c =
    let h : IsBegun c.args.out.now c.push.new.self (line_ends c.args.count) =
    ends-begun c.args.out.now c.loop-done.out c.push.new.self c.loop-done.done c.args.count c.loop-done.invariant c.in_err-push.ensures.err c.loop-done-test.true in
    on_err c.from_residual.result _ h

pub loop-done-preserved : goal.loop-done-preserved
loop-done-preserved c =
    ends-more c.args.out.now c.loop-done.out c.push.new.self c.loop-done.done c.loop-done.invariant c.in_ok-push.ensures.ok
