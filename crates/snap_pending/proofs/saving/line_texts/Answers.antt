use Rattle.snap_pending.proofs.Prelude.{◌∙◌, pending_of, is_refused, record_line}
use Rattle.snap_store.proofs.Lists.{mapped_next, none_more, mapped_all, none_at_all, any_here}
use Rattle.snap_pending.proofs.Refusals.{refused_in}
use Rattle.std.proofs.lemmas.Result.{err_from_is_err_and}
use Rattle.snap_pending.proofs.saving.line_texts.Goals as goal

pub loop-pending-preserved : goal.loop-pending-preserved
loop-pending-preserved c = record {
  printed = mapped_next (λ pending. record_line (pending_of pending)) c.args.batch.now c.loop-pending.pending-index c.pending-item.result _ _ _ c.loop-pending-test.true c.pending-item.is
      c.loop-pending.invariant.printed c.in_ok-line.ensures.printed c.in_ok-push_line.ensures;
  accepted = none_more (λ pending. is_refused (pending_of pending)) c.args.batch.now c.loop-pending.pending-index c.pending-item.result c.loop-pending-test.true c.pending-item.is
      c.loop-pending.invariant.accepted c.in_ok-line.ensures.end;
}

pub returns-in_err-line-clause-end : goal.returns-in_err-line-clause-end
returns-in_err-line-clause-end c =
    let told = err_from_is_err_and c.from_residual.result c.from_residual.ensures.1 in
    rw (told.1, told.2)
    (refused_in _ _ c.in_err-line.field-0.0 (any_here (λ pending. is_refused (pending_of pending)) c.args.batch.now c.loop-pending.pending-index c.pending-item.result c.loop-pending-test.true c.pending-item.is)
    c.in_err-line.ensures.end)

pub returns-clause-printed : goal.returns-clause-printed
returns-clause-printed c = c.loop-pending.invariant.printed ∙ mapped_all _ c.args.batch.now _ c.loop-pending-test.false

pub returns-clause-end : goal.returns-clause-end
returns-clause-end c = none_at_all _ c.args.batch.now _ c.loop-pending-test.false c.loop-pending.invariant.accepted
