-- A plan for a snapshot file, of what was read, or why there is none.
use Rattle.snap_review.proofs.Prelude.{◌≡◌, ℕ, List, Option, None, Some, Result, Ok, Err, inl, inr, refl, ap, ◌∙◌, Files, get, Error, IsCallError, IsPlanWith, status_of, WorkEnd, changes_of, worked, unplanned}
use Rattle.snap_content.specs.declared.error.Error.TheVariants as e
use Rattle.snap_path.specs.Paths.{parent_of}
use Rattle.snap_store.specs.Reading.{IsReadFrom, IsRefused}
use Rattle.snap_review.proofs.Readings.{file_in, file_told}
use Rattle.snap_review.specs.Ends.{IsRunFor}
use Rattle.snap_review.specs.FilePlanned.{IsUnreadFile, IsUnknown, IsUnfound, HasNoFilePlan, ThereEnd, FoundEnd, IsLeaving, going, file_line}
use Rattle.snap_review.specs.Plans.{IsPlanFor}
use Rattle.snap_review.specs.Read.{IsFoundAt}
use Rattle.snap_review.specs.declared.file_plan.Leaving.{Leaving}
use Rattle.snap_review.specs.declared.plan.Plan.{Plan}
use Rattle.snap_review.specs.declared.plan.Put.{Put}
use Rattle.snap_review.specs.declared.status.ReviewStatus.{ReviewStatus}
use Rattle.snap_review.specs.declared.status.ReviewStatus.TheVariants as s
use Rattle.snap_review.specs.declared.words.Command.TheVariants.{Accept}
use Rattle.snap_review.specs.declared.words.Request.{Request}
use Rattle.snap_review.specs.declared.words.Target.{Target}
use Rattle.snap_review.specs.declared.words.Target.TheVariants.{Literals, File}

file_unread : (path : List ℕ) (file : Option (List ℕ)) (error : Error) → IsRefused path file error → IsUnreadFile path file (status_of error)
file_unread path file (e.FileIo named) h = h
file_unread path file (e.NoFile named) h = h.1
file_unread path file e.OutOfMemory h = tt
file_unread path file e.UnexpectedDataType h = h
file_unread path file e.MissingField h = h
file_unread path file e.JsonKey h = absurd h
file_unread path file (e.FailedParsingYaml named) h = h
file_unread path file (e.FloatText named) h = absurd h
file_unread path file (e.NotText named) h = h

pub accept_unread : (request : Request) (files : Option Files) (error : Error) → IsReadFrom request.waiting files (Err error) → HasNoFilePlan Accept request files (status_of error)
accept_unread request files error r = inl (record { file = r.file; told = r.told; comes_to = file_unread request.waiting r.file error r.comes_to })

pub call_unknown : (path : List ℕ) (error : Error) → IsCallError path error → IsUnknown path (status_of error)
call_unknown path (e.FileIo named) h = h
call_unknown path e.OutOfMemory h = tt
call_unknown path e.UnexpectedDataType h = absurd h
call_unknown path e.MissingField h = absurd h
call_unknown path e.JsonKey h = absurd h
call_unknown path (e.FailedParsingYaml named) h = absurd h
call_unknown path (e.FloatText named) h = absurd h
call_unknown path (e.NotText named) h = absurd h
call_unknown path (e.NoFile named) h = absurd h

pub unfound : (path : List ℕ) (files : Option Files) (error : Error) → IsCallError path error → IsFoundAt path files (λ file. IsUnfound path file (status_of error))
unfound path files error h = record { file = file_in files path; told = file_told files path; comes_to = inr (call_unknown path error h) }

pub found_end : {T : Type 0} (path : List ℕ) (files : Option Files) (file : Option (List ℕ)) (result : Result T ReviewStatus) → ((m : Files) → files ≡ Some m → file ≡ get m path) → ThereEnd file result → FoundEnd path files result
found_end path files file (Ok value) told h = record { file = file; told = told; comes_to = h }
found_end path files file (Err status) told h = record { file = file; told = told; comes_to = inl h }

-- the plan to put this and to remove what goes
pub leaving_plan : (put : Put) (request : Request) (names : List (List ℕ)) (shown word : List ℕ) (leaving : Leaving) → shown ≡ word → IsLeaving request (parent_of request.path) names shown leaving
    → IsPlanWith put (going request (parent_of request.path) names) (file_line word request.path) (record { put = put; removals = leaving.removals; lines = leaving.lines })
leaving_plan put request names shown word leaving same l = record { put_is = refl; removals_are = l.removals_are; lines_are = l.lines_are ∙ ap (λ w. file_line w request.path) same }

-- the run of a request for which there is no plan
pub run_unplanned : (target : Target) (request : Request) (status : ReviewStatus) (files files' : Option Files) (written written' : Option (List ℕ)) → IsPlanFor target request files (Err status) → files' ≡ files → written' ≡ written
    → IsRunFor target request status files files' written written'
run_unplanned Literals request status files files' written written' p same silent = record { found = p.found; told = p.told; end = unplanned p.comes_to same silent }
run_unplanned File request status files files' written written' p same silent = unplanned p same silent

-- the run of a request of which the plan was carried out
pub run_worked : (target : Target) (request : Request) (plan : Plan) (status : ReviewStatus) (files files' : Option Files) (written written' : Option (List ℕ)) → IsPlanFor target request files (Ok plan)
    → WorkEnd (changes_of request plan) plan.lines status files files' written written' → IsRunFor target request status files files' written written'
run_worked Literals request plan status files files' written written' p end = record { found = p.found; told = p.told; end = worked plan p.comes_to end }
run_worked File request plan status files files' written written' p end = worked plan p end

-- before anything begins memory may be out
pub unbegun_for : (target : Target) (request : Request) (files : Option Files) (written : Option (List ℕ)) → IsRunFor target request s.OutOfMemory files files written written
unbegun_for Literals request files written = record {
  found = record { waiting = file_in files request.waiting; source = file_in files request.path };
  told = record { waiting_is = file_told files request.waiting; source_is = file_told files request.path };
  end = unplanned tt refl refl;
}
unbegun_for File request files written = unplanned (inr tt) refl refl

-- and then there is no plan
pub unbegun_plan : (target : Target) (request : Request) (files : Option Files) → IsPlanFor target request files (Err s.OutOfMemory)
unbegun_plan Literals request files = record {
  found = record { waiting = file_in files request.waiting; source = file_in files request.path };
  told = record { waiting_is = file_told files request.waiting; source_is = file_told files request.path };
  comes_to = tt;
}
unbegun_plan File request files = inr tt
