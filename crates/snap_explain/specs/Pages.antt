-- What is said of a page that a command has no answer for, and what a run over a page leaves.
use Rattle.std.specs.Prelude.{◌≡◌, ◌⊎◌, ℕ, List, [], ◌∷◌, ◌++◌, Option, None, Some, Result, Ok, Err, codes, decimal, encode_utf8_all}
use Rattle.std.specs.Str.{chars}
use Rattle.snap_io.specs.Streams.{HoldsFront}
use Rattle.snap_emit.specs.Readings.{IsReasonIn}
use Rattle.snap_emit.specs.declared.refusal.Refusal.{Refusal}
use Rattle.snap_front.specs.Describe.{description}
use Rattle.snap_front.specs.Front.{IsAnswer}
use Rattle.snap_front.specs.Program.{IsFailure, asked_of}
use Rattle.snap_front.specs.Split.{front_read}
use Rattle.snap_front.specs.Wanted.{value_text}
use Rattle.snap_front.specs.declared.front_error.FrontError.{FrontError}
use Rattle.snap_front.specs.declared.status.FrontStatus.{FrontStatus}
use Rattle.snap_front.specs.declared.status.FrontStatus.TheVariants.{Failed}
use Rattle.snap_explain.specs.Refusals.{place_text, tree_text}
use Rattle.snap_explain.specs.Streams.{StreamLength}
use Rattle.snap_explain.specs.declared.failing.Pointed.{Pointed}
use Rattle.snap_explain.specs.declared.failing.Pointed.TheVariants as at
use Rattle.snap_explain.specs.declared.saying.SayError.{SayError}
use Rattle.snap_explain.specs.declared.saying.SayError.TheVariants as say
use Rattle.snap_explain.specs.declared.status.ExplainStatus.{ExplainStatus}
use Rattle.snap_explain.specs.declared.status.ExplainStatus.TheVariants as status

-- what a finding points at
abbrev pub pointed_text : Pointed → List ℕ
pointed_text at.Nothing = []
pointed_text (at.Page place) = codes ", " ++ place_text place
pointed_text (at.Path column) = codes ", PATH, character " ++ decimal column
pointed_text (at.Value place) = codes ", VALUE, " ++ place_text place

-- why a text is read as no tree, where that is told
abbrev pub why_text : Option Refusal → List ℕ
why_text None = []
why_text (Some why) = codes ": " ++ tree_text why

-- what is said of a run of the program on pages that ended so, as a line: its own words for the status, a place, why a text is read as
-- no tree, and what helps
abbrev pub failing_text : FrontStatus → Pointed → Option Refusal → List ℕ → List ℕ
failing_text ended pointed why detail = encode_utf8_all (description ended) ++ pointed_text pointed ++ why_text why ++ encode_utf8_all detail ++ codes "\n"

-- the reason is one of the header of this page, which holds of it
abbrev pub IsOfHeader : List ℕ → Refusal → Type 0
IsOfHeader page why = (header : List ℕ) × (body : List ℕ) × (front_read page ≡ Some (header, body)) × IsReasonIn header why

-- the reason is one of the value that is the third of these words, read as the program on pages does, and holds of it
abbrev pub IsOfWords : List (List ℕ) → Refusal → Type 0
IsOfWords words why = (verb : List ℕ) × (path : List ℕ) × (value : List ℕ) × (words ≡ verb ∷ path ∷ value ∷ []) × IsReasonIn (value_text value) why

-- the reason that is told, if one is, is one of the header or of the value
abbrev pub IsWhy : List (List ℕ) → List ℕ → Option Refusal → Type 0
IsWhy words page None = Unit {0}
IsWhy words page (Some why) = IsOfHeader (chars page) why ⊎ IsOfWords words why

-- the program on pages has an answer to the words, of this page
abbrev pub HasAnswer : List (List ℕ) → List ℕ → Type 0
HasAnswer words page = (out : List ℕ) × IsAnswer words page out

-- a finding that tells how the run ended, and why
pub record TellsPage (words : List (List ℕ)) (page : List ℕ) (ended : FrontStatus) (said : List ℕ) : Type 0 where
  pub pointed : Pointed
  pub why : Option Refusal
  pub holds : IsWhy words page why
  pub detail : List ℕ
  pub is : said ≡ failing_text ended pointed why detail

-- such a finding was written after w, or a part of it, or nothing
abbrev pub IsSaidOf : List (List ℕ) → List ℕ → FrontStatus → List ℕ → Option (List ℕ) → Result Unit SayError → Type 0
IsSaidOf words page ended w now (Ok done) = (said : List ℕ) × TellsPage words page ended said × (now ≡ Some (w ++ said))
IsSaidOf words page ended w now (Err say.WriteFault) = (said : List ℕ) × TellsPage words page ended said × HoldsFront said w now
IsSaidOf words page ended w now (Err say.OutOfMemory) = now ≡ Some w

-- the finding of a page: why the program on pages has no answer to the words, which it has none to
pub record IsPageFinding (words : List (List ℕ)) (page said : List ℕ) : Type 0 where
  pub error : FrontError
  pub refused : IsFailure words page error
  pub tells : TellsPage words page (Failed error) said

-- what a run over the page leaves after w: nothing where there is an answer, and else the finding
abbrev pub PageLeaves : List (List ℕ) → ExplainStatus → List ℕ → List ℕ → Option (List ℕ) → Type 0
PageLeaves words status.Nothing page w now = HasAnswer words page × (now ≡ Some w)
PageLeaves words status.Found page w now = (said : List ℕ) × IsPageFinding words page said × (now ≡ Some (w ++ said))
PageLeaves words status.BadWords page w now = ⊥
PageLeaves words status.FileFault page w now = ⊥
PageLeaves words status.ReadFault page w now = now ≡ Some w
PageLeaves words status.WriteFault page w now = (said : List ℕ) × IsPageFinding words page said × HoldsFront said w now
PageLeaves words status.OutOfMemory page w now = now ≡ Some w
PageLeaves words status.InputTooLong page w now = ⊥
PageLeaves words status.StreamTooLong page w now = now ≡ Some w

-- a run over a page that was read to its end may end so
abbrev pub IsUnanswered : ExplainStatus → Type 0
IsUnanswered status.BadWords = ⊥
IsUnanswered status.FileFault = ⊥
IsUnanswered status.ReadFault = ⊥
IsUnanswered status.InputTooLong = ⊥
IsUnanswered status.StreamTooLong = ⊥
IsUnanswered _ = Unit {0}

-- how a run ended whose finding was said so
abbrev pub said_status : Result Unit SayError → ExplainStatus
said_status (Ok done) = status.Found
said_status (Err say.WriteFault) = status.WriteFault
said_status (Err say.OutOfMemory) = status.OutOfMemory

-- nothing is to be said, and nothing was read or written
pub record IsSilent (ended : ExplainStatus) (left left' written written' : Option (List ℕ)) : Type 0 where
  pub ended_is : ended ≡ status.Nothing
  pub left_same : left' ≡ left
  pub written_same : written' ≡ written

-- what a run over a page leaves, where the source and the sink tell what they hold. Of words that ask for a text of the program on
-- pages nothing is said
pub record FrontRun (words : List (List ℕ)) (ended : ExplainStatus) (left left' written written' : Option (List ℕ)) : Type 0 where
  pub silent : (text : List ℕ) → asked_of words ≡ Some text → IsSilent ended left left' written written'
  pub leaves : asked_of words ≡ None → (page w : List ℕ) → left ≡ Some page → written ≡ Some w → PageLeaves words ended page w written'
  pub taken : StreamLength ended left left'
