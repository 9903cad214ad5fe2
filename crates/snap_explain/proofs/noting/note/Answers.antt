use Rattle.snap_explain.proofs.Foretold.{is_noted}
use Rattle.snap_explain.proofs.noting.note.Goals as goal

pub returns-clause-found : goal.returns-clause-found
returns-clause-found g c =
    λ fully asked is seen. is_noted c.in_ok-noted.field-0 c.args.workspace.now c.args.earlier fully asked c.args.preview.now (g.F.Store.files c.args.store.now) c.in_ok-notes.notes c.in_ok-noted.ensures
    (c.in_ok-notes.ensures.notes fully asked is seen) seen
