use Rattle.snap_pending.proofs.Prelude.{◌-◌, length, map, ap, ◌∙◌, rules, slice_get, bytes_eq, items_in, pending_of}
use Rattle.std.proofs.lemmas.Fn.{filter_same}
use Rattle.snap_pending.proofs.LastRun.{kept}
use Rattle.snap_pending.proofs.batch.Batch.keep_last_run.Goals as goal

pub returns : goal.returns
returns c =
    ap (map pending_of) (filter_same _ (λ pending. bytes_eq (pending_of pending).run_id c.in_ok-run_id.run_id) _ (λ x b f' k. search rules) _ _ c.retain.ensures.filtered)
    ∙ kept (items_in c.args.self.now) c.in-Some.last.now c.in_ok-run_id.run_id
    (c.in-Some.ensures.value ∙ ap (λ xs. slice_get xs (length xs - 1)) c.deref.ensures.value) (c.in_ok-run_id.ensures ∙ c.run_id.ensures)
