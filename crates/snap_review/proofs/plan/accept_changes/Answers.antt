use Rattle.snap_review.proofs.Prelude.{sym, subst, inl, Counted, says_file_fault}
use Rattle.snap_review.proofs.Planning.{source_planned, accept_counts}
use Rattle.snap_review.proofs.plan.accept_changes.Goals as goal

pub returns-in-Err-clause-end : goal.returns-in-Err-clause-end
returns-in-Err-clause-end g c = let read = c.in-Err.ensures.end in record { file = read.file; told = read.told; comes_to = inl read.comes_to }

pub returns-in-Ok-clause-end : goal.returns-in-Ok-clause-end
returns-in-Ok-clause-end g c =
    let read = c.in-Ok.ensures.end in
    record {
      file = read.file;
      told = read.told;
      comes_to = source_planned c.args.request.now read.file _ _ c.args.changes.now c.acceptance.result c.as_str.ensures read.comes_to c.acceptance.ensures;
    }

pub returns-in-Ok-clause-cause : goal.returns-in-Ok-clause-cause
returns-in-Ok-clause-cause g c =
    subst (λ count. Counted says_file_fault (g.S.Store.faults c.args.store.now) count c.acceptance.result) (sym c.in-Ok.ensures.cause)
    (accept_counts _ _ c.args.changes.now c.acceptance.result (g.S.Store.faults c.args.store.now) c.acceptance.ensures)
