use Rattle.std.proofs.lemmas.Result.{err_from_is_err_and}
use Rattle.snap_pending.proofs.Prelude.{◌∙◌, ap, Some, take}
use Rattle.snap_pending.proofs.Ends.{at_err}
use Rattle.snap_pending.proofs.FileLines.{next_line, all_lines, same_but_lines, same_but_removed}
use Rattle.snap_pending.proofs.LinesStand.{removal_stopped, added_one, stopped_at_line}
use Rattle.snap_pending.proofs.saving.write_lines.Goals as goal

pub loop-line-preserved : goal.loop-line-preserved
loop-line-preserved g c = record {
  written = λ m e. c.in_ok-append_line.ensures.added _ (c.loop-line.invariant.written m e)
      ∙ ap Some (next_line m c.args.path.now c.args.lines.now c.loop-line.line-index c.line-item.result c.loop-line-test.true c.line-item.is);
  changed = added_one c.args.path.now c.args.lines.now c.loop-line.line-index c.line-item.result _ _ _ c.loop-line-test.true c.line-item.is c.loop-line.invariant.changed c.in_ok-append_line.ensures.added;
  calm = c.in_ok-append_line.ensures.cause ∙ c.loop-line.invariant.calm;
}

pub returns-in_err-append_line-clause-unknown : goal.returns-in_err-append_line-clause-unknown
returns-in_err-append_line-clause-unknown g c =
    at_err c.from_residual-in_err-append_line.result (λ m told.
    same_but_lines c.args.path.now m (take c.loop-line.line-index c.args.lines.now) _ (c.in_err-append_line.ensures.unknown _ (c.loop-line.invariant.written m told)))

pub returns-clause-written : goal.returns-clause-written
returns-clause-written g c = λ m e. c.loop-line.invariant.written m e ∙ ap Some (all_lines m c.args.path.now c.args.lines.now _ c.loop-line-test.false)

pub returns-in_err-remove-clause-unknown : goal.returns-in_err-remove-clause-unknown
returns-in_err-remove-clause-unknown g c =
    at_err c.from_residual.result (λ m told. same_but_removed c.args.path.now m _ (c.in_err-remove.ensures.stopped m told))

pub returns-in_err-remove-clause-stopped : goal.returns-in_err-remove-clause-stopped
returns-in_err-remove-clause-stopped g c =
    let told = err_from_is_err_and c.from_residual.result c.from_residual.ensures.1 in
    rw (told.1, told.2) (removal_stopped c.args.path.now c.args.lines.now c.in_err-remove.field-0.0 _ _ c.in_err-remove.ensures.error c.in_err-remove.ensures.stopped)

pub returns-in_err-append_line-clause-stopped : goal.returns-in_err-append_line-clause-stopped
returns-in_err-append_line-clause-stopped g c =
    let told = err_from_is_err_and c.from_residual-in_err-append_line.result c.from_residual-in_err-append_line.ensures.1 in
    rw (told.1, told.2)
    (stopped_at_line c.args.path.now c.args.lines.now c.loop-line.line-index c.line-item.result _ _ _ _ c.loop-line-test.true c.line-item.is c.loop-line.invariant.changed c.in_err-append_line.ensures.stopped)
