-- A run without faults over spelled requests ends well.
use Rattle.snap_run.proofs.Prelude.{◌≡◌, ℕ, List, [], ◌∷◌, ◌++◌, length, ◌+◌, inl, inr, sym, ap, ◌∙◌, subst, arith, Rose, Outside, RequestView, RunWords, SessionView, empty_session, asserts, requests_of, is_taken, remembered_by, remembered_after, Reads, StopsAt, Stopped, status_at, RunsTo, AreSpelled, IsSteady, EndsWell, DocumentError, Status, AllPassed, SomeFailed, BadWords, BadRequest, Refused, ReadFault, OutOfMemory, InputTooLong}
use Rattle.std.specs.Prelude.{refl, is_ok}
use Rattle.snap_run_requests.proofs.Requesting.{only_spelled}
use Rattle.snap_run.specs.Status.{SpellsTaken, one_more}
use Rattle.snap_run.specs.declared.status.RefusalKind.{RefusalKind}
use Rattle.snap_run.specs.declared.document_error.DocumentError.TheVariants as error
use Rattle.snap_run.specs.declared.status.Status.TheVariants.{FileIo, WriteFault}

-- the document after these spells a request that is taken with what is remembered then
spelled_at : (words : RunWords) (done : List (List ℕ)) (d : List ℕ) (later : List (List ℕ)) (rs : List RequestView) (s : SessionView) → AreSpelled words (done ++ d ∷ later) s → Reads done rs
    → SpellsTaken words d (remembered_after words rs s)
spelled_at words [] d later [] s (one_more t more) reads = t
spelled_at words [] d later (r ∷ rs) s h reads = absurd reads
spelled_at words (x ∷ done) d later [] s h reads = absurd reads
spelled_at words (x ∷ done) d later (r ∷ rs) s (one_more t more) reads =
    spelled_at words done d later rs (remembered_by words r s)
    (subst (λ k. AreSpelled words (done ++ d ∷ later) (remembered_by words k s)) (sym (only_spelled x t.request r t.spells reads.0)) more) reads.1

pub not_rose : (n m : ℕ) → IsSteady n m → Rose n m → ⊥
not_rose n m h r = absurd (omega (arith, r.rose, h.same, h.below_last))

no_request : (words : RunWords) (e : DocumentError) (n k : ℕ) (d : List ℕ) (s : SessionView) (a b : Outside) → BadRequest k ≡ status_at n e → StopsAt words e d s a b → SpellsTaken words d s → ⊥
no_request words error.NoRequest n k d s a b e h t =
    let end = h.2 t.request t.spells in
    let taken = sym (ap (λ r. is_taken words r s) end.0) ∙ t.taken in
    let clash = sym taken ∙ end.1 in cc clash
no_request words (error.Refused kind) n k d s a b e h t = cc
no_request words (error.FileIo p) n k d s a b e h t = cc
no_request words error.WriteFault n k d s a b e h t = cc
no_request words error.OutOfMemory n k d s a b e h t = cc

not_refused : (words : RunWords) (e : DocumentError) (n k : ℕ) (kind : RefusalKind) (d : List ℕ) (s : SessionView) (a b : Outside) → Refused k kind ≡ status_at n e → StopsAt words e d s a b → SpellsTaken words d s → ⊥
not_refused words error.NoRequest n k kind d s a b e h t = cc
not_refused words (error.Refused other) n k kind d s a b e h t =
    let same = only_spelled d t.request (asserts h.1.assertion) t.spells h.1.reads in
    let taken = ap (λ r. is_taken words r s) same ∙ t.taken in
    let clash = sym taken ∙ ap is_ok h.1.is.course_is in cc clash
not_refused words (error.FileIo p) n k kind d s a b e h t = cc
not_refused words error.WriteFault n k kind d s a b e h t = cc
not_refused words error.OutOfMemory n k kind d s a b e h t = cc

-- a run over spelled documents stops at none that is no request, and at none that is refused

pub never_bad : (n : ℕ) (said : RunWords) (docs : List (List ℕ)) (before after : Outside) → AreSpelled said docs empty_session → Stopped (BadRequest n) said docs empty_session before after → ⊥
never_bad n said docs before after spelled run =
    let at = spelled_at said run.done run.document run.later (requests_of run.answers) empty_session (subst (λ ds. AreSpelled said ds empty_session) run.cut spelled) run.ran.reads in
    no_request said run.error (length run.done + 1) n run.document run.remembered run.between after run.status_is run.stops (subst (SpellsTaken said run.document) (sym run.ran.remembered) at)

pub never_refused : (n : ℕ) (kind : RefusalKind) (said : RunWords) (docs : List (List ℕ)) (before after : Outside) → AreSpelled said docs empty_session → Stopped (Refused n kind) said docs empty_session before after → ⊥
never_refused n kind said docs before after spelled run =
    let at = spelled_at said run.done run.document run.later (requests_of run.answers) empty_session (subst (λ ds. AreSpelled said ds empty_session) run.cut spelled) run.ran.reads in
    not_refused said run.error (length run.done + 1) n kind run.document run.remembered run.between after run.status_is run.stops (subst (SpellsTaken said run.document) (sym run.ran.remembered) at)

-- what no fault leaves of the statuses
pub ends_well : (status : Status) (said : RunWords) (docs : List (List ℕ)) (before after : Outside) → AreSpelled said docs empty_session → RunsTo status said docs before after
    → ((n : ℕ) (p : List ℕ) → status ≡ FileIo n p → ⊥) → (status ≡ ReadFault → ⊥) → (status ≡ WriteFault → ⊥) → (status ≡ InputTooLong → ⊥) → EndsWell status
ends_well AllPassed said docs before after spelled run b c d e = inl refl
ends_well SomeFailed said docs before after spelled run b c d e = inr (inl refl)
ends_well OutOfMemory said docs before after spelled run b c d e = inr (inr refl)
ends_well BadWords said docs before after spelled run b c d e = absurd run
ends_well (FileIo n p) said docs before after spelled run b c d e = absurd (b n p refl)
ends_well ReadFault said docs before after spelled run b c d e = absurd (c refl)
ends_well WriteFault said docs before after spelled run b c d e = absurd (d refl)
ends_well InputTooLong said docs before after spelled run b c d e = absurd (e refl)
ends_well (Refused n kind) said docs before after spelled run b c d e = absurd (never_refused n kind said docs before after spelled run)
ends_well (BadRequest n) said docs before after spelled run b c d e = absurd (never_bad n said docs before after spelled run)
