-- How a run ends, by what the review would come to.
use Rattle.snap_explain_review.proofs.Prelude.{◌≡◌, ◌≢◌, ℕ, false, List, Option, None, Some, refl, sym, ◌∙◌, subst, Files}
use Rattle.snap_content.proofs.Booleans.{some_same}
use Rattle.snap_review.proofs.Foreseeing.{unbegun_preview}
use Rattle.snap_review.specs.Ends.{says_file_fault as is_fault}
use Rattle.snap_review.specs.Previews.{PreviewOf}
use Rattle.snap_review.specs.declared.status.ReviewStatus.{ReviewStatus}
use Rattle.snap_review.specs.declared.status.ReviewStatus.TheVariants as s
use Rattle.snap_review.specs.declared.words.Request.{Request}
use Rattle.snap_explain_review.specs.Ends.{ExplanationOf, IsExplained, IsSaid, SaysBy, SaysOf, says_file_fault, says_write_fault, silent_end}
use Rattle.snap_explain_review.specs.Reasons.{reason_text}
use Rattle.snap_explain_review.specs.declared.status.ReasonStatus.{ReasonStatus}
use Rattle.snap_explain_review.specs.declared.status.ReasonStatus.TheVariants as r

-- a run that says nothing tells a fault of the store where the review would
pub silent_fault : (foreseen : ReviewStatus) (status : ReasonStatus) → Some status ≡ silent_end foreseen → says_file_fault status ≡ is_fault foreseen
silent_fault s.Done status e = rw (some_same status r.Nothing e) refl
silent_fault s.BadWords status e = rw (some_same status r.BadWords e) refl
silent_fault s.NoPending status e = absurd (cc e)
silent_fault (s.Unreadable error) status e = absurd (cc e)
silent_fault (s.FileIo path) status e = rw (some_same status r.FileFault e) refl
silent_fault s.NoSource status e = absurd (cc e)
silent_fault s.WriteFault status e = absurd (cc e)
silent_fault s.OutOfMemory status e = rw (some_same status r.OutOfMemory e) refl
silent_fault (s.NotStable line) status e = absurd (cc e)
silent_fault (s.NoLiteral line) status e = absurd (cc e)
silent_fault (s.Stale line) status e = absurd (cc e)
silent_fault (s.SameLiteral line) status e = absurd (cc e)

-- and it tells none of the sink
pub silent_writes : (foreseen : ReviewStatus) (status : ReasonStatus) → Some status ≡ silent_end foreseen → says_write_fault status ≡ false
silent_writes s.Done status e = rw (some_same status r.Nothing e) refl
silent_writes s.BadWords status e = rw (some_same status r.BadWords e) refl
silent_writes s.NoPending status e = absurd (cc e)
silent_writes (s.Unreadable error) status e = absurd (cc e)
silent_writes (s.FileIo path) status e = rw (some_same status r.FileFault e) refl
silent_writes s.NoSource status e = absurd (cc e)
silent_writes s.WriteFault status e = absurd (cc e)
silent_writes s.OutOfMemory status e = rw (some_same status r.OutOfMemory e) refl
silent_writes (s.NotStable line) status e = absurd (cc e)
silent_writes (s.NoLiteral line) status e = absurd (cc e)
silent_writes (s.Stale line) status e = absurd (cc e)
silent_writes (s.SameLiteral line) status e = absurd (cc e)

-- nothing is written then
pub silent_says : (foreseen : ReviewStatus) (request : Request) (status : ReasonStatus) (written : Option (List ℕ)) → Some status ≡ silent_end foreseen → SaysOf request foreseen status written written
silent_says foreseen request status written e = subst (λ ended. SaysBy ended (reason_text request foreseen) status written written) e (refl, refl)

-- where a reason is said no store failed
unfailed : (foreseen : ReviewStatus) → None ≡ silent_end foreseen → is_fault foreseen ≡ false
unfailed s.Done e = refl
unfailed s.BadWords e = refl
unfailed s.NoPending e = refl
unfailed (s.Unreadable error) e = refl
unfailed (s.FileIo path) e = absurd (cc e)
unfailed s.NoSource e = refl
unfailed s.WriteFault e = refl
unfailed s.OutOfMemory e = refl
unfailed (s.NotStable line) e = refl
unfailed (s.NoLiteral line) e = refl
unfailed (s.Stale line) e = refl
unfailed (s.SameLiteral line) e = refl

said_file : (reason : List ℕ) (status : ReasonStatus) (written written' : Option (List ℕ)) → IsSaid reason status written written' → says_file_fault status ≡ false
said_file reason r.Nothing written written' h = refl
said_file reason r.Found written written' h = refl
said_file reason r.BadWords written written' h = refl
said_file reason r.FileFault written written' h = absurd h
said_file reason r.WriteFault written written' h = refl
said_file reason r.OutOfMemory written written' h = refl

pub said_fault : (foreseen : ReviewStatus) (reason : List ℕ) (status : ReasonStatus) (written written' : Option (List ℕ)) → None ≡ silent_end foreseen → IsSaid reason status written written' → says_file_fault status ≡ is_fault foreseen
said_fault foreseen reason status written written' e h = said_file reason status written written' h ∙ sym (unfailed foreseen e)

pub says_reason : (foreseen : ReviewStatus) (request : Request) (status : ReasonStatus) (written written' : Option (List ℕ)) → None ≡ silent_end foreseen → IsSaid (reason_text request foreseen) status written written'
    → SaysOf request foreseen status written written'
says_reason foreseen request status written written' e h = subst (λ ended. SaysBy ended (reason_text request foreseen) status written written') e h

-- what was said of a request that the words ask for is said of it
pub explained : (wanted : Option Request) (request : Request) (foreseen : ReviewStatus) (status : ReasonStatus) (files : Option Files) (written written' : Option (List ℕ)) → Some request ≡ wanted → PreviewOf wanted foreseen files
    → SaysOf request foreseen status written written' → IsExplained request status files written written'
explained wanted request foreseen status files written written' same previewed said = record {
  foreseen = foreseen;
  previewed = subst (λ w. PreviewOf w foreseen files) (sym same) previewed;
  said = said;
}

pub explanation : (wanted : Option Request) (request : Request) (status : ReasonStatus) (files : Option Files) (written written' : Option (List ℕ)) → Some request ≡ wanted → IsExplained request status files written written'
    → ExplanationOf wanted status files written written'
explanation wanted request status files written written' same h = subst (λ w. ExplanationOf w status files written written') same h

-- before anything begins memory may be out
pub unbegun_explanation : (wanted : Option Request) (files : Option Files) (written : Option (List ℕ)) → wanted ≢ None → ExplanationOf wanted r.OutOfMemory files written written
unbegun_explanation None files written some = absurd (some refl)
unbegun_explanation (Some request) files written some = record { foreseen = s.OutOfMemory; previewed = unbegun_preview (Some request) files some; said = (refl, refl) }
