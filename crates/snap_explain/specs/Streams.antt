-- What is said of the documents of a stream, and what a whole run over it leaves.
use Rattle.std.specs.Prelude.{◌≡◌, ◌+◌, ℕ, suc, Bool, true, false, List, [], ◌∷◌, ◌++◌, length, Option, None, Some, Result, Ok, Err}
use Rattle.snap_io.specs.Streams.{HoldsFront}
use Rattle.snap_io_streams.specs.Streams.{TakesAtMost, TakesExactly, input_limit}
use Rattle.snap_run_requests.specs.Cut.{documents}
use Rattle.snap_run_requests.specs.Faults.{IsReason}
use Rattle.snap_run_requests.specs.Requests.{RequestView, ReadsAs, Spells}
use Rattle.snap_io.specs.Files.{Files}
use Rattle.snap_assert_settings.specs.declared.config.Update.TheVariants.{NoUpdate}
use Rattle.snap_run.specs.Answers.{RunWords, words_at}
use Rattle.snap_run_requests.specs.declared.fault.Reason.{Reason}
use Rattle.snap_explain.specs.Asked.{Known, nothing_known}
use Rattle.snap_explain.specs.Findings.{is_filled}
use Rattle.snap_explain.specs.Json.{refusal_in}
use Rattle.snap_explain.specs.Remarks.{AreLinesOn, AreSeen, lines_on}
use Rattle.snap_explain.specs.Troubles.{IsClear, HasTrouble}
use Rattle.snap_explain.specs.declared.form.Form.{Form}
use Rattle.snap_explain.specs.declared.telling.TellError.{TellError}
use Rattle.snap_explain.specs.declared.telling.TellError.TheVariants as tell
use Rattle.snap_explain.specs.declared.trouble.Trouble.{Trouble}
use Rattle.snap_explain.specs.declared.position.Place.{Place}
use Rattle.snap_explain.specs.declared.remarks.Remarks.{Remarks}
use Rattle.snap_explain.specs.declared.saying.SayError.{SayError}
use Rattle.snap_explain.specs.declared.saying.SayError.TheVariants as say
use Rattle.snap_explain.specs.declared.status.ExplainStatus.{ExplainStatus}
use Rattle.snap_explain.specs.declared.status.ExplainStatus.TheVariants as status

-- what is asked of a stream: how its findings are written, and the run that is foreseen
pub record StreamWords : Type 0 where
  pub form : Form
  pub run : RunWords

abbrev pub in_form : Form → RunWords → StreamWords
in_form form run = record { form = form; run = run }

-- the document is no request for this reason, which holds of it: it spells none
pub record IsNoRequest (document : List ℕ) (why : Reason) : Type 0 where
  pub holds : IsReason document why
  pub unspelled : (r : RequestView) → Spells document r → ⊥

-- a finding that tells why the document with this number is no request, a place in the stream, what was seen there, and what helps to mend
-- it
pub record IsRefusal (form : Form) (number : ℕ) (document said : List ℕ) : Type 0 where
  pub why : Reason
  pub refused : IsNoRequest document why
  pub place : Place
  pub seen : Option (List ℕ)
  pub detail : List ℕ
  pub is : said ≡ refusal_in form number place why seen detail

-- what is said of the document with this number: why it is no request, which changes nothing that is remembered; of a request that would
-- pass, or begins or ends a block, what is to be said of it, and what is seen in it; and else why that request would not pass
pub data TellsOf (words : StreamWords) (files : Option Files) (number : ℕ) (document : List ℕ) (known known' : Known) (said : List ℕ) : Type 0 where
  of_request : (r : RequestView) (remarks : Remarks) → ReadsAs document r → IsClear words.run files number known known' r → AreSeen r remarks → AreLinesOn words.form number None remarks said
      → TellsOf words files number document known known' said
  of_refusal : IsRefusal words.form number document said → known' ≡ known → TellsOf words files number document known known' said
  of_trouble : (r : RequestView) (what : Trouble) (remarks : Remarks) → ReadsAs document r → HasTrouble words.run files number known known' r what → AreSeen r remarks → AreLinesOn words.form number (Some what) remarks said
      → TellsOf words files number document known known' said

-- what is said of documents, of each in turn, the first of which has the number 1, and what is remembered then: before the first nothing
pub data Tells (words : StreamWords) (files : Option Files) : List (List ℕ) → Known → List ℕ → Type 0 where
  at_start : (all : List (List ℕ)) (known : Known) (out : List ℕ) → all ≡ [] → known ≡ nothing_known → out ≡ [] → Tells words files all known out
  at_document : (all before : List (List ℕ)) (document : List ℕ) (known known' : Known) (out told said : List ℕ) → Tells words files before known told
      → TellsOf words files (suc (length before)) document known known' said → all ≡ before ++ document ∷ [] → out ≡ told ++ said → Tells words files all known' out

-- a text of which this holds was written after w, or a part of its front where the sink failed, or nothing
abbrev pub Said : {T : Type 0} → (List ℕ → Type 0) → List ℕ → Option (List ℕ) → Result T SayError → Type 0
Said holds w now (Ok done) = (said : List ℕ) × holds said × (now ≡ Some (w ++ said))
Said holds w now (Err say.WriteFault) = (said : List ℕ) × holds said × HoldsFront said w now
Said holds w now (Err say.OutOfMemory) = now ≡ Some w

-- all of the lines were written after w, and it is told whether there are some; or a part of their front, or nothing
abbrev pub LinesEnd : List ℕ → List ℕ → Option (List ℕ) → Result Bool SayError → Type 0
LinesEnd lines w now (Ok found) = (now ≡ Some (w ++ lines)) × (found ≡ is_filled lines)
LinesEnd lines w now (Err say.WriteFault) = HoldsFront lines w now
LinesEnd lines w now (Err say.OutOfMemory) = now ≡ Some w

abbrev pub told_error : SayError → TellError
told_error say.WriteFault = tell.WriteFault
told_error say.OutOfMemory = tell.OutOfMemory

-- that something was said, or why not
abbrev pub whether_said : {T : Type 0} → Result T SayError → Result Bool TellError
whether_said (Ok done) = Ok true
whether_said (Err error) = Err (told_error error)

-- how the telling of a document ends whose lines were written so
abbrev pub told_as : Result Bool SayError → Result Bool TellError
told_as (Ok found) = Ok found
told_as (Err error) = Err (told_error error)

-- how the telling of a request ends: where it was not seen what it comes to, so and nothing is written
abbrev pub FoundEnds : Form → ℕ → Place → Result (Option Trouble) TellError → Remarks → List ℕ → Option (List ℕ) → Result Bool TellError → Type 0
FoundEnds form number place (Ok found) remarks w now result = (said : Result Bool SayError) × LinesEnd (lines_on form number place found remarks) w now said × (result ≡ told_as said)
FoundEnds form number place (Err error) remarks w now result = (result ≡ Err error) × (now ≡ Some w)

-- what is said of a document was written after w, and it is told whether that is something; or a part of it, or nothing
abbrev pub DocumentEnds : StreamWords → Option Files → ℕ → List ℕ → Known → Known → List ℕ → Option (List ℕ) → Result Bool TellError → Type 0
DocumentEnds words files number document known known' w now (Ok found) =
    (said : List ℕ) × TellsOf words files number document known known' said × (now ≡ Some (w ++ said)) × (found ≡ is_filled said)
DocumentEnds words files number document known known' w now (Err tell.WriteFault) =
    (said : List ℕ) × TellsOf words files number document known known' said × HoldsFront said w now
DocumentEnds words files number document known known' w now (Err tell.FileFault) = now ≡ Some w
DocumentEnds words files number document known known' w now (Err tell.OutOfMemory) = now ≡ Some w

-- what is said of all documents of the input was written after w
pub record ToldAll (words : StreamWords) (files : Option Files) (input w : List ℕ) (now : Option (List ℕ)) (found : Bool) : Type 0 where
  pub out : List ℕ
  pub known : Known
  pub tells : Tells words files (documents input) known out
  pub told : now ≡ Some (w ++ out)
  pub found_is : found ≡ is_filled out

-- a front of what is said of documents at the front of the input was written
pub record ToldWithin (words : StreamWords) (files : Option Files) (input w : List ℕ) (now : Option (List ℕ)) : Type 0 where
  pub done : List (List ℕ)
  pub later : List (List ℕ)
  pub known : Known
  pub out : List ℕ
  pub is : documents input ≡ done ++ later
  pub tells : Tells words files done known out
  pub part : HoldsFront out w now

-- what the documents of the input leave after w
abbrev pub StreamTold : StreamWords → Option Files → List ℕ → List ℕ → Option (List ℕ) → Result Bool TellError → Type 0
StreamTold words files input w now (Ok found) = ToldAll words files input w now found
StreamTold words files input w now (Err error) = ToldWithin words files input w now

-- what a run over the input leaves after w: nothing where it isn't read to its end
abbrev pub StreamLeaves : StreamWords → Option Files → ExplainStatus → List ℕ → List ℕ → Option (List ℕ) → Type 0
StreamLeaves words files status.Nothing input w now = ToldAll words files input w now false
StreamLeaves words files status.Found input w now = ToldAll words files input w now true
StreamLeaves words files status.BadWords input w now = ⊥
StreamLeaves words files status.FileFault input w now = ToldWithin words files input w now
StreamLeaves words files status.ReadFault input w now = now ≡ Some w
StreamLeaves words files status.WriteFault input w now = ToldWithin words files input w now
StreamLeaves words files status.OutOfMemory input w now = ToldWithin words files input w now
StreamLeaves words files status.InputTooLong input w now = ⊥
StreamLeaves words files status.StreamTooLong input w now = now ≡ Some w

-- how a run ended whose documents were told so
abbrev pub stream_status : Result Bool TellError → ExplainStatus
stream_status (Ok false) = status.Nothing
stream_status (Ok true) = status.Found
stream_status (Err tell.WriteFault) = status.WriteFault
stream_status (Err tell.FileFault) = status.FileFault
stream_status (Err tell.OutOfMemory) = status.OutOfMemory

-- a run that writes nothing, in this workspace, with literal blocks or without
abbrev pub run_below : List ℕ → Bool → RunWords
run_below workspace literal = words_at workspace NoUpdate (record { force_update = false; force_pass = false; full = false; literal = literal })

-- such a run, whose findings are written so
abbrev pub stream_at : Form → List ℕ → Bool → StreamWords
stream_at form workspace literal = in_form form (run_below workspace literal)

-- the input is too long exactly where one byte more than the limit was taken
abbrev pub StreamLength : ExplainStatus → Option (List ℕ) → Option (List ℕ) → Type 0
StreamLength status.StreamTooLong left left' = TakesExactly (input_limit + 1) left left'
StreamLength status.OutOfMemory left left' = TakesAtMost (input_limit + 1) left left'
StreamLength _ left left' = TakesAtMost input_limit left left'

-- what a run over a stream leaves, where the source and the sink tell what they hold
pub record StreamRun (words : StreamWords) (files : Option Files) (status : ExplainStatus) (left left' written written' : Option (List ℕ)) : Type 0 where
  pub leaves : (input w : List ℕ) → left ≡ Some input → written ≡ Some w → StreamLeaves words files status input w written'
  pub taken : StreamLength status left left'
