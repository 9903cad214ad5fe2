use Rattle.snap_review.proofs.Prelude.{sym, subst, inl}
use Rattle.std.specs.Prelude.{IsSome}
use Rattle.snap_review.specs.FilePlanned.{FilePlanEnd}
use Rattle.snap_review.specs.Read.{IsFoundAt}
use Rattle.snap_review.specs.declared.words.Command.TheVariants.{Reject}
use Rattle.snap_review.proofs.file_plan.reject_file.Goals as goal

pub returns-in-Err-clause-end : goal.returns-in-Err-clause-end
returns-in-Err-clause-end g c = inl c.in-Err.ensures.end

pub returns-in-Ok-clause-end : goal.returns-in-Ok-clause-end
returns-in-Ok-clause-end g c =
    let request = c.args.request.now in
    let same = c.in-Ok.ensures.same in
    subst (λ files. FilePlanEnd Reject request files c.reject_found.result) same
    (c.reject_found.ensures.end (subst (λ files. IsFoundAt request.waiting files (λ file. IsSome file)) (sym same) c.in-Ok.ensures.end))
