use Rattle.snap_review.proofs.Prelude.{sym, subst}
use Rattle.snap_review.specs.FilePlanned.{FilePlanEnd, IsSnapshotFrom}
use Rattle.snap_review.specs.declared.words.Command.TheVariants.{Accept}
use Rattle.snap_review.proofs.FilePlanning.{accept_unread}
use Rattle.snap_review.proofs.file_plan.accept_file.Goals as goal

pub returns-in-Err-clause-end : goal.returns-in-Err-clause-end
returns-in-Err-clause-end g c = rw c.status_of.ensures (accept_unread c.args.request.now _ c.in-Err.error c.in-Err.ensures.end)

pub returns-in-Ok-clause-end : goal.returns-in-Ok-clause-end
returns-in-Ok-clause-end g c =
    let request = c.args.request.now in
    let same = c.in-Ok.ensures.same in
    subst (λ files. FilePlanEnd Accept request files c.accept_snapshot.result) same
    (c.accept_snapshot.ensures.end (subst (λ files. IsSnapshotFrom request files c.in-Ok.snapshot) (sym same) c.in-Ok.ensures.end))
