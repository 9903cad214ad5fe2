-- A plan, of what was read, or why there is none.
use Rattle.snap_review.proofs.Prelude.{◌≡◌, ◌≢◌, ℕ, List, Option, None, Some, Result, Ok, Err, inl, inr, refl, subst, Files, Counted, IsTextFile, Found, Asks, HasNoPlan, PlanEnd, IsNoSource, IsUnasked, IsAccepted, IsUnaccepted, AcceptEnd, RejectEnd, SourcePlanEnd, NewLiteral, says_file_fault, ReviewOf}
use Rattle.snap_review.proofs.FilePlanning.{unbegun_for}
use Rattle.snap_review.specs.declared.plan.Plan.{Plan}
use Rattle.snap_review.specs.declared.status.ReviewStatus.{ReviewStatus}
use Rattle.snap_review.specs.declared.status.ReviewStatus.TheVariants as s
use Rattle.snap_review.specs.declared.words.Command.TheVariants.{Accept, Reject}
use Rattle.snap_review.specs.declared.words.Request.{Request}

pub unasked_accept : (request : Request) (found : Found) (status : ReviewStatus) → IsUnasked request.waiting found.waiting status → HasNoPlan Accept request found status
unasked_accept request found s.NoPending h = h
unasked_accept request found (s.Unreadable error) h = h
unasked_accept request found (s.FileIo path) h = inl h
unasked_accept request found s.OutOfMemory h = tt
unasked_accept request found s.Done h = absurd h
unasked_accept request found s.BadWords h = absurd h
unasked_accept request found s.NoSource h = absurd h
unasked_accept request found s.WriteFault h = absurd h
unasked_accept request found (s.NotStable line) h = absurd h
unasked_accept request found (s.NoLiteral line) h = absurd h
unasked_accept request found (s.Stale line) h = absurd h
unasked_accept request found (s.SameLiteral line) h = absurd h

pub unasked_reject : (request : Request) (found : Found) (status : ReviewStatus) → IsUnasked request.waiting found.waiting status → HasNoPlan Reject request found status
unasked_reject request found s.NoPending h = h
unasked_reject request found (s.Unreadable error) h = h
unasked_reject request found (s.FileIo path) h = h
unasked_reject request found s.OutOfMemory h = tt
unasked_reject request found s.Done h = absurd h
unasked_reject request found s.BadWords h = absurd h
unasked_reject request found s.NoSource h = absurd h
unasked_reject request found s.WriteFault h = absurd h
unasked_reject request found (s.NotStable line) h = absurd h
unasked_reject request found (s.NoLiteral line) h = absurd h
unasked_reject request found (s.Stale line) h = absurd h
unasked_reject request found (s.SameLiteral line) h = absurd h

no_source : (request : Request) (found : Found) (changes : List NewLiteral) (status : ReviewStatus) → Asks found.waiting changes → IsNoSource request.path found.source status → HasNoPlan Accept request found status
no_source request found changes s.NoSource asks h = ((changes, asks), h)
no_source request found changes (s.FileIo path) asks h = inr h
no_source request found changes s.OutOfMemory asks h = tt
no_source request found changes s.NoPending asks h = absurd h
no_source request found changes (s.Unreadable error) asks h = absurd h
no_source request found changes s.Done asks h = absurd h
no_source request found changes s.BadWords asks h = absurd h
no_source request found changes s.WriteFault asks h = absurd h
no_source request found changes (s.NotStable line) asks h = absurd h
no_source request found changes (s.NoLiteral line) asks h = absurd h
no_source request found changes (s.Stale line) asks h = absurd h
no_source request found changes (s.SameLiteral line) asks h = absurd h

unaccepted : (request : Request) (found : Found) (changes : List NewLiteral) (text : List ℕ) (status : ReviewStatus) → Asks found.waiting changes → IsTextFile found.source text → IsUnaccepted text changes status
    → HasNoPlan Accept request found status
unaccepted request found changes text (s.NotStable line) asks there h = record { changes = changes; asked = asks; text = text; source_is = there; refused = h }
unaccepted request found changes text (s.NoLiteral line) asks there h = record { changes = changes; asked = asks; text = text; source_is = there; refused = h }
unaccepted request found changes text (s.Stale line) asks there h = record { changes = changes; asked = asks; text = text; source_is = there; refused = h }
unaccepted request found changes text (s.SameLiteral line) asks there h = record { changes = changes; asked = asks; text = text; source_is = there; refused = h }
unaccepted request found changes text s.OutOfMemory asks there h = tt
unaccepted request found changes text s.NoSource asks there h = absurd h
unaccepted request found changes text (s.FileIo path) asks there h = absurd h
unaccepted request found changes text s.NoPending asks there h = absurd h
unaccepted request found changes text (s.Unreadable error) asks there h = absurd h
unaccepted request found changes text s.Done asks there h = absurd h
unaccepted request found changes text s.BadWords asks there h = absurd h
unaccepted request found changes text s.WriteFault asks there h = absurd h

pub accept_planned : (request : Request) (found : Found) (changes : List NewLiteral) (result : Result Plan ReviewStatus) → Asks found.waiting changes → SourcePlanEnd request found.source changes result
    → PlanEnd Accept request found result
accept_planned request found changes (Ok plan) asks (text, there, accepted) =
    record { changes = changes; asked = asks; text = text; source_is = there; put = accepted.put; made_is = accepted.made_is; plan_is = accepted.plan_is }
accept_planned request found changes (Err status) asks (inl h) = no_source request found changes status asks h
accept_planned request found changes (Err status) asks (inr (text, there, refused)) = unaccepted request found changes text status asks there refused

pub reject_planned : (request : Request) (found : Found) (changes : List NewLiteral) (result : Result Plan ReviewStatus) → Asks found.waiting changes → RejectEnd request.waiting changes result → PlanEnd Reject request found result
reject_planned request found changes (Ok plan) asks rejected = record { changes = changes; asked = asks; plan_is = rejected }
reject_planned request found changes (Err status) asks short = rw short tt

pub source_planned : (request : Request) (file : Option (List ℕ)) (text shown : List ℕ) (changes : List NewLiteral) (result : Result Plan ReviewStatus) → shown ≡ text → IsTextFile file text
    → AcceptEnd request.waiting shown changes result → SourcePlanEnd request file changes result
source_planned request file text shown changes (Ok plan) same there h = (text, there, subst (λ t. IsAccepted request.waiting t changes plan) same h)
source_planned request file text shown changes (Err status) same there h = inr (text, there, subst (λ t. IsUnaccepted t changes status) same h)

unaccepted_counts : (text : List ℕ) (changes : List NewLiteral) (status : ReviewStatus) (count : ℕ) → IsUnaccepted text changes status → Counted {T = Plan} says_file_fault count count (Err status)
unaccepted_counts text changes (s.NotStable line) count h = refl
unaccepted_counts text changes (s.NoLiteral line) count h = refl
unaccepted_counts text changes (s.Stale line) count h = refl
unaccepted_counts text changes (s.SameLiteral line) count h = refl
unaccepted_counts text changes s.OutOfMemory count h = refl
unaccepted_counts text changes s.NoSource count h = refl
unaccepted_counts text changes (s.FileIo path) count h = absurd h
unaccepted_counts text changes s.NoPending count h = refl
unaccepted_counts text changes (s.Unreadable error) count h = refl
unaccepted_counts text changes s.Done count h = refl
unaccepted_counts text changes s.BadWords count h = refl
unaccepted_counts text changes s.WriteFault count h = refl

pub accept_counts : (waiting text : List ℕ) (changes : List NewLiteral) (result : Result Plan ReviewStatus) (count : ℕ) → AcceptEnd waiting text changes result → Counted says_file_fault count count result
accept_counts waiting text changes (Ok plan) count h = refl
accept_counts waiting text changes (Err status) count h = unaccepted_counts text changes status count h

-- before anything begins memory may be out
pub unbegun : (wanted : Option Request) (files : Option Files) (written : Option (List ℕ)) → wanted ≢ None → ReviewOf wanted s.OutOfMemory files files written written
unbegun None files written some = absurd (some refl)
unbegun (Some request) files written some = unbegun_for request.target request files written
