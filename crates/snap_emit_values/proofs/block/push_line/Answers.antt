use Rattle.snap_emit_values.proofs.Prelude.{chars, break_at, on_err_weaker}
use Rattle.snap_emit_values.proofs.Begun.{on_err, begun_first, begun_then}
use Rattle.snap_emit_values.proofs.block.push_line.Goals as goal

pub returns-in_err-push_run-clause-err : goal.returns-in_err-push_run-clause-err
returns-in_err-push_run-clause-err c =
    on_err c.from_residual.result _
    (begun_first c.args.out.now c.push_run.new.out (chars c.args.line.now) (break_at c.args.column) c.in_err-push_run.ensures.err)

pub returns-clause-err : goal.returns-clause-err
returns-clause-err c =
    on_err_weaker c.break_line.result
    (λ h. begun_then c.args.out.now c.push_run.new.out c.break_line.new.out (chars c.args.line.now) (break_at c.args.column) c.in_ok-push_run.ensures.ok h)
    c.break_line.ensures.err
