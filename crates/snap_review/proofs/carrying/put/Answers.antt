use Rattle.snap_review.proofs.Prelude.{sym, subst, OnOk, Becomes, all_changed, written}
use Rattle.snap_review.proofs.carrying.put.Goals as goal

pub returns-in-Snapshot-clause-ok : goal.returns-in-Snapshot-clause-ok
returns-in-Snapshot-clause-ok g c =
    subst (λ put. OnOk c.put_snapshot.result (Becomes (g.S.Store.files c.args.store.now) (g.S.Store.files c.put_snapshot.new.store) (all_changed (written c.args.request.now put))))
    (sym c.in-Snapshot.is) c.put_snapshot.ensures.ok
