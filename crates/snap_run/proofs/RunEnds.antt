-- What the program's run comes to.
use Rattle.snap_run.proofs.Prelude.{◌≡◌, ◌≤◌, ◌+◌, ℕ, Bool, true, false, List, [], Option, None, Some, refl, sym, ap, ◌∙◌, subst, inl, inr, length, arith, Outside, RunWords, documents, words_of, SessionView, empty_session, Stopped, Ended, EndedBy, ended_status, RunsTo, RunsFrom, LengthCause, CountedIf, says_read_fault, says_write_fault, says_file_fault, AreSpelled, IsSteady, EndsWell, status_at, DocumentError, Runner, Status, Tally, AllPassed, SomeFailed, BadWords, BadRequest, Refused, ReadFault, OutOfMemory, InputTooLong}
use Rattle.snap_io_streams.specs.Streams.{TakesExactly}
use Rattle.snap_run.specs.declared.document_error.DocumentError.TheVariants as error
use Rattle.snap_run.specs.declared.status.Status.TheVariants.{FileIo, WriteFault}
use Rattle.snap_run.specs.declared.status.RefusalKind.{RefusalKind}
use Rattle.snap_run.proofs.Statuses.{before_all}
use Rattle.snap_run.proofs.Completeness.{ends_well, not_rose}
use Rattle.snap_io_streams.proofs.Pieces.{exactly_long}

-- where the run stops before any document nothing is changed

pub no_memory : (said : RunWords) (left : Option (List ℕ)) (o : Outside) → RunsFrom OutOfMemory said left o o
no_memory said left o = before_all OutOfMemory said left o o (λ docs. inl (refl, refl))

pub read_fault : (said : RunWords) (left : Option (List ℕ)) (o : Outside) → RunsFrom ReadFault said left o o
read_fault said left o = before_all ReadFault said left o o (λ docs. (refl, refl))

pub too_long : (said : RunWords) (left : Option (List ℕ)) (o : Outside) → RunsFrom InputTooLong said left o o
too_long said left o = before_all InputTooLong said left o o (λ docs. (refl, refl))

-- the run came to its end

ended_by : (fails : Bool) (tally : Tally) (said : RunWords) (docs : List (List ℕ)) (a b : Outside) → tally.fails ≡ fails → Ended tally said docs empty_session a b → EndedBy fails said docs empty_session a b
ended_by fails tally said docs a b is e = (tally.passed, record { answers = e.answers; remembered = e.remembered; ran = e.ran; failing = e.failing ∙ is; passing = e.passing })

ended_runs : (fails : Bool) (tally : Tally) (said : RunWords) (docs : List (List ℕ)) (a b : Outside) → tally.fails ≡ fails → Ended tally said docs empty_session a b → RunsTo (ended_status fails) said docs a b
ended_runs true tally said docs a b is e = ended_by true tally said docs a b is e
ended_runs false tally said docs a b is e = ended_by false tally said docs a b is e

pub finished : (status : Status) (tally : Tally) (runner : Runner) (said : RunWords) (bytes : List ℕ) (left : Option (List ℕ)) (s : SessionView) (a b : Outside)
    → s ≡ empty_session → status ≡ ended_status tally.fails → words_of runner ≡ said → ((xs : List ℕ) → left ≡ Some xs → bytes ≡ xs)
    → Ended tally (words_of runner) (documents bytes) s a b → RunsFrom status said left a b
finished status tally runner said bytes left s a b new status_is same told ended =
    let e = subst (λ k. Ended tally (words_of runner) (documents bytes) k a b) new ended in
    let runs = subst (λ w. RunsTo (ended_status tally.fails) w (documents bytes) a b) same (ended_runs tally.fails tally (words_of runner) (documents bytes) a b refl e) in
    record { input = bytes; told = told; runs = subst (λ x. RunsTo x said (documents bytes) a b) (sym status_is) runs }

-- what holds of each status that tells of a document, holds of the status at which a run stopped
pub of_stopped : (P : Status → Type 0) (status : Status) (words : RunWords) (docs : List (List ℕ)) (a b : Outside) → Stopped status words docs empty_session a b
    → ((n : ℕ) → P (BadRequest n)) → ((n : ℕ) (kind : RefusalKind) → P (Refused n kind)) → ((n : ℕ) (path : List ℕ) → P (FileIo n path)) → P WriteFault → P OutOfMemory → P status
of_stopped P status words docs a b s bad refused file write memory = subst P (sym s.status_is) (of_error (length s.done + 1) s.error)
  where
    of_error : (n : ℕ) (e : DocumentError) → P (status_at n e)
    of_error n error.NoRequest = bad n
    of_error n (error.Refused kind) = refused n kind
    of_error n (error.FileIo path) = file n path
    of_error n error.WriteFault = write
    of_error n error.OutOfMemory = memory

-- the run stopped at a document
pub stopped : (status : Status) (runner : Runner) (said : RunWords) (bytes : List ℕ) (left : Option (List ℕ)) (z : SessionView) (a b : Outside)
    → z ≡ empty_session → words_of runner ≡ said → ((xs : List ℕ) → left ≡ Some xs → bytes ≡ xs)
    → Stopped status (words_of runner) (documents bytes) z a b
    → RunsFrom status said left a b
stopped status runner said bytes left z a b new same told stop =
    let s = subst (λ k. Stopped status (words_of runner) (documents bytes) k a b) new stop in
    let To : Status → Type 0 = λ x. Stopped x (words_of runner) (documents bytes) empty_session a b → RunsTo x (words_of runner) (documents bytes) a b in
    let runs = of_stopped To status (words_of runner) (documents bytes) a b s (λ n r. r) (λ n kind r. r) (λ n path r. r) (λ r. r) (λ r. inr r) s in
    record { input = bytes; told = told; runs = subst (λ w. RunsTo status w (documents bytes) a b) same runs }

-- without faults, a run over documents that spell requests ends well
pub complete : (status : Status) (said : RunWords) (limit : ℕ) (left left' : Option (List ℕ)) (sb sn kb kn fb fn : ℕ) (a b : Outside)
    → RunsFrom status said left a b → LengthCause limit left left' status → CountedIf (says_read_fault status) sb sn → CountedIf (says_write_fault status) kb kn → CountedIf (says_file_fault status) fb fn
    → (input : List ℕ) → left ≡ Some input → AreSpelled said (documents input) empty_session → length input ≤ limit
    → IsSteady sb sn → IsSteady kb kn → IsSteady fb fn → EndsWell status
complete status said limit left left' sb sn kb kn fb fn a b run by_length by_source by_sink by_store input told spelled within source sink store =
    let spelled_run : AreSpelled said (documents run.input) empty_session = subst (λ x. AreSpelled said (documents x) empty_session) (sym (run.told input told)) spelled in
    ends_well status said (documents run.input) a b spelled_run run.runs
    (λ n p e. not_rose fb fn store (subst (λ s. CountedIf (says_file_fault s) fb fn) e by_store))
    (λ e. not_rose sb sn source (subst (λ s. CountedIf (says_read_fault s) sb sn) e by_source))
    (λ e. not_rose kb kn sink (subst (λ s. CountedIf (says_write_fault s) kb kn) e by_sink))
    (λ e. let long : TakesExactly (limit + 1) left left' = subst (LengthCause limit left left') e by_length in absurd (omega (arith, exactly_long (limit + 1) left left' input long told, within)))
