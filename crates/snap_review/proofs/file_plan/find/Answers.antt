use Rattle.snap_review.proofs.Prelude.{sym, subst, Counted, says_file_fault}
use Rattle.snap_review.proofs.FilePlanning.{unfound, found_end}
use Rattle.snap_review.proofs.file_plan.find.Goals as goal

pub returns-in-Err-clause-end : goal.returns-in-Err-clause-end
returns-in-Err-clause-end g c = rw c.status_of.ensures (unfound c.args.path.now _ c.in-Err.error c.in-Err.ensures.error)

pub returns-in-Ok-clause-end : goal.returns-in-Ok-clause-end
returns-in-Ok-clause-end g c = found_end c.args.path.now _ c.in-Ok.file c.be_there.result c.in-Ok.ensures.found c.be_there.ensures.end

pub returns-in-Ok-clause-cause : goal.returns-in-Ok-clause-cause
returns-in-Ok-clause-cause g c =
    subst (λ count. Counted says_file_fault (g.S.Store.faults c.args.store.now) count c.be_there.result) (sym c.in-Ok.ensures.cause) (c.be_there.ensures.no_fault (g.S.Store.faults c.args.store.now))
