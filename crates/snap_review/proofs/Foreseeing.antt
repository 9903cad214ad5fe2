-- What a review would come to, and that it is what a review comes to.
use Rattle.snap_review.proofs.Prelude.{◌≡◌, ℕ, List, Option, None, Some, Ok, Err, true, false, inl, inr, Files, Change, WorkEnd, RunEnd, worked, unplanned, ReviewOf, ◌≢◌, refl, changes_of}
use Rattle.snap_review.proofs.FilePlanning.{unbegun_plan}
use Rattle.snap_review.specs.Ends.{IsRunFor}
use Rattle.snap_review.specs.FilePlanned.{IsUnfound, HasNoFilePlan}
use Rattle.snap_review.specs.Plans.{IsPlanFor, IsPlanOf}
use Rattle.snap_review.specs.Previews.{PreviewBy, PreviewOf, is_refusal}
use Rattle.snap_review.specs.declared.plan.Plan.{Plan}
use Rattle.snap_review.specs.declared.status.ReviewStatus.{ReviewStatus}
use Rattle.snap_review.specs.declared.status.ReviewStatus.TheVariants as s
use Rattle.snap_review.specs.declared.words.Command.{Command}
use Rattle.snap_review.specs.declared.words.Command.TheVariants.{Accept, Reject}
use Rattle.snap_review.specs.declared.words.Request.{Request}
use Rattle.snap_review.specs.declared.words.Target.{Target}
use Rattle.snap_review.specs.declared.words.Target.TheVariants.{Literals, File}

done_found : (path : List ℕ) (file : Option (List ℕ)) → IsUnfound path file s.Done → ⊥
done_found path file (inl h) = let clash : s.Done ≡ s.NoPending = h.0 in cc clash
done_found path file (inr h) = h

done_file : (command : Command) (request : Request) (files : Option Files) → HasNoFilePlan command request files s.Done → ⊥
done_file Accept request files (inl h) = h.comes_to
done_file Reject request files (inl h) = done_found request.waiting h.file h.comes_to
done_file command request files (inr h) = h

-- where there is no plan, that is not since it is done
done_planned : (target : Target) (request : Request) (files : Option Files) → IsPlanFor target request files (Err s.Done) → ⊥
done_planned Literals request files h = h.comes_to
done_planned File request files h = done_file request.command request files h

-- why there is no plan is what the request would come to
pub previewed : (request : Request) (status : ReviewStatus) (files : Option Files) → IsPlanOf request files (Err status) → PreviewBy request status files
previewed request s.Done files h = absurd (done_planned request.target request files h)
previewed request s.BadWords files h = h
previewed request s.NoPending files h = h
previewed request (s.Unreadable error) files h = h
previewed request (s.FileIo path) files h = h
previewed request s.NoSource files h = h
previewed request s.WriteFault files h = h
previewed request s.OutOfMemory files h = h
previewed request (s.NotStable line) files h = h
previewed request (s.NoLiteral line) files h = h
previewed request (s.Stale line) files h = h
previewed request (s.SameLiteral line) files h = h

-- before anything begins memory may be out
pub unbegun_preview : (wanted : Option Request) (files : Option Files) → wanted ≢ None → PreviewOf wanted s.OutOfMemory files
unbegun_preview None files some = absurd (some refl)
unbegun_preview (Some request) files some = unbegun_plan request.target request files

-- no changes and no lines end by a refusal
refused_work : (changes : List Change) (lines : List ℕ) (status : ReviewStatus) (files files' : Option Files) (written written' : Option (List ℕ)) → is_refusal status ≡ true
    → WorkEnd changes lines status files files' written written' → ⊥
refused_work changes lines s.Done files files' written written' r h = let clash : false ≡ true = r in cc clash
refused_work changes lines s.BadWords files files' written written' r h = h.said
refused_work changes lines s.NoPending files files' written written' r h = h.said
refused_work changes lines (s.Unreadable error) files files' written written' r h = h.said
refused_work changes lines (s.FileIo path) files files' written written' r h = let clash : false ≡ true = r in cc clash
refused_work changes lines s.NoSource files files' written written' r h = h.said
refused_work changes lines s.WriteFault files files' written written' r h = let clash : false ≡ true = r in cc clash
refused_work changes lines s.OutOfMemory files files' written written' r h = let clash : false ≡ true = r in cc clash
refused_work changes lines (s.NotStable line) files files' written written' r h = h.said
refused_work changes lines (s.NoLiteral line) files files' written written' r h = h.said
refused_work changes lines (s.Stale line) files files' written written' r h = h.said
refused_work changes lines (s.SameLiteral line) files files' written written' r h = h.said

-- a refused run has no plan, for its reason
refused_run : (request : Request) (P : Plan → Type 0) (N : ReviewStatus → Type 0) (status : ReviewStatus) (files files' : Option Files) (written written' : Option (List ℕ)) → is_refusal status ≡ true
    → RunEnd request P N status files files' written written' → N status
refused_run request P N status files files' written written' r (worked plan is end) = absurd (refused_work (changes_of request plan) plan.lines status files files' written written' r end)
refused_run request P N status files files' written written' r (unplanned none same silent) = none

refused_plan : (target : Target) (request : Request) (status : ReviewStatus) (files files' : Option Files) (written written' : Option (List ℕ)) → is_refusal status ≡ true
    → IsRunFor target request status files files' written written' → IsPlanFor target request files (Err status)
refused_plan Literals request status files files' written written' r h = record { found = h.found; told = h.told; comes_to = refused_run request _ _ status files files' written written' r h.end }
refused_plan File request status files files' written written' r h = refused_run request _ _ status files files' written written' r h

pub refused_foreseen : (wanted : Option Request) (status : ReviewStatus) (files files' : Option Files) (written written' : Option (List ℕ)) → is_refusal status ≡ true
    → ReviewOf wanted status files files' written written' → PreviewOf wanted status files
refused_foreseen None status files files' written written' r h = h.0
refused_foreseen (Some request) status files files' written written' r h = previewed request status files (refused_plan request.target request status files files' written written' r h)

-- a run that is done had a plan
done_run : (request : Request) (P : Plan → Type 0) (N : ReviewStatus → Type 0) (files files' : Option Files) (written written' : Option (List ℕ)) → (N s.Done → ⊥)
    → RunEnd request P N s.Done files files' written written' → (plan : Plan) × P plan
done_run request P N files files' written written' never (worked plan is end) = (plan, is)
done_run request P N files files' written written' never (unplanned none same silent) = absurd (never none)

done_plan : (target : Target) (request : Request) (files files' : Option Files) (written written' : Option (List ℕ)) → IsRunFor target request s.Done files files' written written'
    → (plan : Plan) × IsPlanFor target request files (Ok plan)
done_plan Literals request files files' written written' h =
    let made = done_run request _ _ files files' written written' (λ none. none) h.end in
    (made.0, record { found = h.found; told = h.told; comes_to = made.1 })
done_plan File request files files' written written' h = done_run request _ _ files files' written written' (done_file request.command request files) h

pub done_foreseen : (wanted : Option Request) (files files' : Option Files) (written written' : Option (List ℕ)) → ReviewOf wanted s.Done files files' written written' → PreviewOf wanted s.Done files
done_foreseen None files files' written written' h = h.0
done_foreseen (Some request) files files' written written' h = done_plan request.target request files files' written written' h
