use Rattle.snap_emit_values.proofs.Prelude.{break_at}
use Rattle.snap_emit_values.proofs.Begun.{on_err, begun_first}
use Rattle.snap_emit_values.proofs.emit.push_marked_line.Goals as goal

pub returns-in_err-break_line-clause-err : goal.returns-in_err-break_line-clause-err
returns-in_err-break_line-clause-err c =
    on_err c.from_residual.result _
    (begun_first c.args.out.now c.break_line.new.out (break_at c.args.column) c.args.mark.now c.in_err-break_line.ensures.err)
