use Rattle.std.proofs.Common.{IfErr}
use Rattle.std.proofs.lemmas.Result.{err_from_is_err_and}
use Rattle.snap_io.specs.StandsAfter.{StandsAfter}
use Rattle.snap_store.specs.Causes.{named_by}
use Rattle.snap_pending.specs.Saved.{rewrites}
use Rattle.snap_pending.proofs.LinesStand.{unprinted}
use Rattle.snap_pending.proofs.Prelude.{◌∙◌, ℕ, List, ap, map, subst, Some, with_lines, pending_of, record_line, nothing_written}
use Rattle.snap_pending.proofs.Ends.{saved, no_key, at_ok}
use Rattle.snap_pending.proofs.pending.PendingInlineSnapshot.save_batch.Goals as goal

pub returns-clause-written : goal.returns-clause-written
returns-clause-written g c =
    at_ok c.write_lines.result (λ written. λ m told. written m told ∙ ap (λ ls. Some (with_lines m c.args.path.now ls)) (c.as_slice.ensures.value ∙ c.in_ok-lines.ensures.printed)) c.write_lines.ensures.written

pub returns-clause-end : goal.returns-clause-end
returns-clause-end g c = saved c.args.path.now _ c.write_lines.result c.in_ok-lines.ensures.end c.write_lines.ensures.error

pub returns-clause-same : goal.returns-clause-same
returns-clause-same g c = λ key. no_key c.args.path.now c.write_lines.result c.write_lines.ensures.error key

pub returns-in_err-lines-clause-unknown : goal.returns-in_err-lines-clause-unknown
returns-in_err-lines-clause-unknown g c = nothing_written c.from_residual.result c.args.path.now (g.S.Store.files c.args.store.now)

pub returns-in_err-lines-clause-stopped : goal.returns-in_err-lines-clause-stopped
returns-in_err-lines-clause-stopped g c =
    let told = err_from_is_err_and c.from_residual.result c.from_residual.ensures.1 in
    rw (told.1, told.2)
    (unprinted (rewrites c.args.path.now (map (λ pending. record_line (pending_of pending)) c.args.batch.now)) _ c.in_err-lines.field-0.0 (g.S.Store.files c.args.store.now) c.in_err-lines.ensures.end)

pub returns-clause-stopped : goal.returns-clause-stopped
returns-clause-stopped g c =
    let P : List (List ℕ) → Type 0 = λ lines. IfErr c.write_lines.result (λ error. StandsAfter (rewrites c.args.path.now lines) (named_by error) (g.S.Store.files c.args.store.now) (g.S.Store.files c.write_lines.new.store)) in
    subst P (c.as_slice.ensures.value ∙ c.in_ok-lines.ensures.printed) c.write_lines.ensures.stopped
