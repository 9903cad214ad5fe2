use Rattle.snap_review.proofs.Prelude.{◌∙◌, subst, Found, SourcePlanEnd}
use Rattle.snap_review.proofs.Planning.{unasked_accept, accept_planned}
use Rattle.snap_review.proofs.Readings.{file_in, file_told}
use Rattle.snap_review.proofs.plan.accept.Goals as goal

pub returns-in-Err-clause-end : goal.returns-in-Err-clause-end
returns-in-Err-clause-end g c =
    let files = g.S.Store.files c.args.store.now in
    let request = c.args.request.now in
    let read = c.in-Err.ensures.end in
    let found : Found = record { waiting = read.file; source = file_in files request.path } in
    record {
      found = found;
      told = record { waiting_is = read.told; source_is = file_told files request.path };
      comes_to = unasked_accept request found c.in-Err.status read.comes_to;
    }

pub returns-in-Ok-clause-end : goal.returns-in-Ok-clause-end
returns-in-Ok-clause-end g c =
    let request = c.args.request.now in
    let read = c.in-Ok.ensures.end in
    let source = c.accept_changes.ensures.end in
    let found : Found = record { waiting = read.file; source = source.file } in
    record {
      found = found;
      told = record { waiting_is = read.told; source_is = λ m told. source.told m (c.in-Ok.ensures.same ∙ told) };
      comes_to = accept_planned request found _ c.accept_changes.result read.comes_to
          (subst (λ changes. SourcePlanEnd request source.file changes c.accept_changes.result) c.as_slice.ensures.value source.comes_to);
    }
