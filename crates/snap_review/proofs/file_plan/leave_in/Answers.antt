use Rattle.snap_review.proofs.Prelude.{subst, chars, status_of}
use Rattle.snap_io.specs.Listed.{AreNames}
use Rattle.snap_review.specs.FilePlanned.{IsLeaving, IsUnknown}
use Rattle.snap_review.proofs.FilePlanning.{call_unknown}
use Rattle.snap_review.proofs.file_plan.leave_in.Goals as goal

pub returns-in-Err-clause-end : goal.returns-in-Err-clause-end
returns-in-Err-clause-end g c = λ is.
    rw c.status_of.ensures (subst (λ path. IsUnknown path (status_of c.in-Err.error)) is (call_unknown c.args.folder.now c.in-Err.error c.in-Err.ensures.error))

pub returns-in-Ok-leaving_of-clause-end : goal.returns-in-Ok-leaving_of-clause-end
returns-in-Ok-leaving_of-clause-end g c = λ is. record {
  names = c.in-Ok.names;
  listed = λ m told. subst (λ path. AreNames m path c.in-Ok.names) is (c.in-Ok.ensures.names m told);
  left = subst (λ folder. IsLeaving c.args.request.now folder c.in-Ok.names (chars c.args.word.now) c.in-Ok-leaving_of.leaving) is
      (subst (λ names. IsLeaving c.args.request.now c.args.folder.now names (chars c.args.word.now) c.in-Ok-leaving_of.leaving) c.as_slice.ensures c.in-Ok-leaving_of.ensures);
}
