use Rattle.snap_review.proofs.Prelude.{refl, inr, codes, chars-ascii}
use Rattle.snap_review.specs.declared.plan.Put.TheVariants.{Nothing}
use Rattle.snap_review.proofs.FilePlanning.{leaving_plan}
use Rattle.snap_review.proofs.file_plan.reject_found.Goals as goal

pub returns-in-Err-clause-end : goal.returns-in-Err-clause-end
returns-in-Err-clause-end g c = λ there. inr c.in-Err.ensures.end

pub returns-in-Ok-clause-end : goal.returns-in-Ok-clause-end
returns-in-Ok-clause-end g c = λ there.
    let l = c.in-Ok.ensures.end in
    record {
      there = there;
      names = l.names;
      listed = l.listed;
      plan_is = rw c.plan_from.ensures (leaving_plan Nothing c.args.request.now l.names _ (codes "rejected") c.in-Ok.made (chars-ascii (codes "rejected") refl) l.left);
    }
