-- What is said of a review, and how a run ends.
use Rattle.std.specs.Prelude.{◌≡◌, ◌++◌, ℕ, Bool, true, false, List, Option, None, Some, encode_utf8_all}
use Rattle.snap_io.specs.Files.{Files}
use Rattle.snap_io.specs.Streams.{HoldsFront}
use Rattle.snap_review.specs.Previews.{PreviewBy}
use Rattle.snap_review.specs.Wanted.{wanted_by}
use Rattle.snap_review.specs.declared.status.ReviewStatus.{ReviewStatus}
use Rattle.snap_review.specs.declared.status.ReviewStatus.TheVariants as review
use Rattle.snap_review.specs.declared.words.Request.{Request}
use Rattle.snap_explain_review.specs.Reasons.{reason_text}
use Rattle.snap_explain_review.specs.declared.status.ReasonStatus.{ReasonStatus}
use Rattle.snap_explain_review.specs.declared.status.ReasonStatus.TheVariants.{Nothing, Found, BadWords, FileFault, WriteFault, OutOfMemory}

-- the exit status
abbrev pub code_of : ReasonStatus → ℕ
code_of Nothing = 0
code_of Found = 1
code_of BadWords = 2
code_of FileFault = 5
code_of WriteFault = 7
code_of OutOfMemory = 8

-- a status that tells that the store failed
abbrev pub says_file_fault : ReasonStatus → Bool
says_file_fault FileFault = true
says_file_fault other = false

-- a status that tells that the sink failed
abbrev pub says_write_fault : ReasonStatus → Bool
says_write_fault WriteFault = true
says_write_fault other = false

-- how a run ends that says nothing, by what the review would come to: it would be done, or the run came to no answer. Any other review is
-- refused, and no review ends by a write before it is begun
abbrev pub silent_end : ReviewStatus → Option ReasonStatus
silent_end review.Done = Some Nothing
silent_end review.BadWords = Some BadWords
silent_end (review.FileIo path) = Some FileFault
silent_end review.OutOfMemory = Some OutOfMemory
silent_end refused = None

-- the reason is written, or a part of its front where the sink failed; without memory nothing is
abbrev pub IsSaid : List ℕ → ReasonStatus → Option (List ℕ) → Option (List ℕ) → Type 0
IsSaid reason Found written written' = (w : List ℕ) → written ≡ Some w → written' ≡ Some (w ++ encode_utf8_all reason)
IsSaid reason WriteFault written written' = (w : List ℕ) → written ≡ Some w → HoldsFront (encode_utf8_all reason) w written'
IsSaid reason OutOfMemory written written' = written' ≡ written
IsSaid reason other written written' = ⊥

-- the run ended so and nothing was written, or the reason was
abbrev pub SaysBy : Option ReasonStatus → List ℕ → ReasonStatus → Option (List ℕ) → Option (List ℕ) → Type 0
SaysBy (Some ended) reason status written written' = (status ≡ ended) × (written' ≡ written)
SaysBy None reason status written written' = IsSaid reason status written written'

-- what is said of a request whose review would come to this
abbrev pub SaysOf : Request → ReviewStatus → ReasonStatus → Option (List ℕ) → Option (List ℕ) → Type 0
SaysOf request foreseen status written written' = SaysBy (silent_end foreseen) (reason_text request foreseen) status written written'

-- what a review of the request would come to over these files is said
pub record IsExplained (request : Request) (status : ReasonStatus) (files : Option Files) (written written' : Option (List ℕ)) : Type 0 where
  pub foreseen : ReviewStatus
  pub previewed : PreviewBy request foreseen files
  pub said : SaysOf request foreseen status written written'

-- wrong words are no review, and nothing is said of them
abbrev pub ExplanationOf : Option Request → ReasonStatus → Option Files → Option (List ℕ) → Option (List ℕ) → Type 0
ExplanationOf None status files written written' = (status ≡ BadWords) × (written' ≡ written)
ExplanationOf (Some request) status files written written' = IsExplained request status files written written'

-- how a run with the words of a review ended
abbrev pub ReviewExplained : List (List ℕ) → ReasonStatus → Option Files → Option (List ℕ) → Option (List ℕ) → Type 0
ReviewExplained words status files written written' = ExplanationOf (wanted_by words) status files written written'
