use Rattle.snap_explain.specs.Asked.{seen_of}
use Rattle.snap_explain.proofs.Foretold.{is_unpassed, passes_said}
use Rattle.snap_explain.proofs.Prelude.{inl}
use Rattle.snap_explain.proofs.foreseeing.trouble_in.Goals as goal

pub returns-then-preview-clause-found : goal.returns-then-preview-clause-found
returns-then-preview-clause-found g c =
    passes_said c.note.result c.args.workspace.now (seen_of c.args.earlier.now) (seen_of c.go_on.new.self).depth c.in_ok-asker.asker c.args.preview.now (g.F.Store.files c.args.store.now) c.if-preview.true c.in_ok-asker.ensures.first
    c.in_ok-asker.ensures.depth (rw c.told.ensures at c.note.ensures.found)

pub returns-clause-found : goal.returns-clause-found
returns-clause-found g c =
    λ fully asked seen. inl (is_unpassed fully asked c.args.preview.now (g.F.Store.files c.args.store.now) c.in_ok-what.what c.if-preview.false c.in_ok-what.ensures.found seen)
