use Rattle.snap_review.proofs.Prelude.{map, subst, IfErr, OnOk, removes, written, all_changed, Becomes, StopsIn}
use Rattle.snap_review.proofs.Stopping.{stops_first, stops_later, all_done}
use Rattle.snap_review.proofs.carrying.change.Goals as goal

pub returns-in-Err-clause-stopped : goal.returns-in-Err-clause-stopped
returns-in-Err-clause-stopped g c = stops_first _ (map removes c.args.plan.now.removals.items) c.in-Err.error _ _ c.in-Err.ensures.stopped

pub returns-in-Ok-clause-stopped : goal.returns-in-Ok-clause-stopped
returns-in-Ok-clause-stopped g c =
    stops_later (written c.args.request.now c.args.plan.now.put) (map removes c.args.plan.now.removals.items) c.remove_each.result (g.S.Store.files c.args.store.now) (g.S.Store.files c.put.new.store)
    (g.S.Store.files c.remove_each.new.store) c.in-Ok.ensures.ok
    (subst (λ paths. IfErr c.remove_each.result (λ error. StopsIn (map removes paths) error (g.S.Store.files c.put.new.store) (g.S.Store.files c.remove_each.new.store))) c.as_slice.ensures.value
    c.remove_each.ensures.stopped)

pub returns-in-Ok-clause-ok : goal.returns-in-Ok-clause-ok
returns-in-Ok-clause-ok g c =
    all_done (written c.args.request.now c.args.plan.now.put) (map removes c.args.plan.now.removals.items) c.remove_each.result (g.S.Store.files c.args.store.now) (g.S.Store.files c.put.new.store)
    (g.S.Store.files c.remove_each.new.store) c.in-Ok.ensures.ok
    (subst (λ paths. OnOk c.remove_each.result (Becomes (g.S.Store.files c.put.new.store) (g.S.Store.files c.remove_each.new.store) (all_changed (map removes paths)))) c.as_slice.ensures.value
    c.remove_each.ensures.ok)
