use Rattle.snap_review.proofs.Prelude.{refl, inr, codes, chars-ascii}
use Rattle.snap_review.specs.declared.plan.Put.TheVariants.{Snapshot}
use Rattle.snap_review.proofs.FilePlanning.{leaving_plan}
use Rattle.snap_review.proofs.file_plan.accept_snapshot.Goals as goal

pub returns-in-Err-clause-end : goal.returns-in-Err-clause-end
returns-in-Err-clause-end g c = λ read. inr c.in-Err.ensures.end

pub returns-in-Ok-clause-end : goal.returns-in-Ok-clause-end
returns-in-Ok-clause-end g c = λ read.
    let l = c.in-Ok.ensures.end in
    record {
      snapshot = c.args.snapshot;
      read = read;
      names = l.names;
      listed = l.listed;
      plan_is = rw c.plan_from.ensures (leaving_plan (Snapshot c.args.snapshot) c.args.request.now l.names _ (codes "accepted") c.in-Ok.made (chars-ascii (codes "accepted") refl) l.left);
    }
