use Rattle.snap_explain.specs.Notes.{notes_by}
use Rattle.snap_explain.proofs.Foretold.{passes_with}
use Rattle.snap_explain.proofs.Prelude.{ap, ◌∙◌}
use Rattle.snap_explain.proofs.noting.notes_on.Goals as goal

pub returns-clause-notes : goal.returns-clause-notes
returns-clause-notes g c =
    λ fully asked is seen. passes_with c.args.workspace.now c.args.earlier fully asked c.args.preview.now (g.F.Store.files c.args.store.now) c.notes_by.result c.in_ok-pending.pending c.in_ok-outside.outside is
    (c.notes_by.ensures ∙ ap (λ warnings. notes_by c.in_ok-pending.pending warnings c.args.earlier c.in_ok-outside.outside) c.as_slice-warnings.ensures) c.in_ok-outside.ensures c.in_ok-pending.ensures.found seen
