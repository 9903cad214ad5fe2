-- What the words of a command line ask for, and what the program does.
use Rattle.std.specs.Prelude.{◌≡◌, ◌⊎◌, ◌+◌, ◌==◌, ◌||◌, not, ℕ, Bool, true, false, List, [], ◌∷◌, ◌++◌, length, codes, Option, None, Some, option_and_then, if◌then◌else◌}
use Rattle.std.specs.List.{find, list_any}
use Rattle.std.specs.Str.{bytes_eq}
use Rattle.snap_io.specs.Streams.{HoldsFront}
use Rattle.snap_io_words.specs.Asked.{text_asked}
use Rattle.snap_assert_settings.specs.Replaced.{ReplacementView}
use Rattle.snap_mask.specs.Program.{IsNotBegun}
use Rattle.snap_mask.specs.Rules.{rules_in}
use Rattle.snap_explain_review.specs.Ends.{ReviewExplained, code_of as reason_code}
use Rattle.snap_explain_review.specs.declared.status.ReasonStatus.{ReasonStatus}
use Rattle.snap_explain_unused.specs.Runs.{UnusedRun, code_of as unused_code}
use Rattle.snap_explain_unused.specs.declared.status.UnusedStatus.{UnusedStatus}
use Rattle.snap_explain.specs.Findings.{LeavesOf}
use Rattle.snap_explain.specs.Pages.{FrontRun}
use Rattle.snap_explain.specs.Streams.{StreamRun, StreamWords, stream_at}
use Rattle.snap_run.specs.Answers.{is_literal}
use Rattle.snap_io.specs.Files.{Files}
use Rattle.snap_explain.specs.declared.form.Form.{Form}
use Rattle.snap_explain.specs.declared.form.Form.TheVariants.{Plain, Json}
use Rattle.snap_explain.specs.declared.usage.TheConstants.{USAGE, VERSION}
use Rattle.snap_explain.specs.declared.status.ExplainStatus.{ExplainStatus}
use Rattle.snap_explain.specs.declared.status.ExplainStatus.TheVariants.{Nothing, Found, BadWords, FileFault, ReadFault, WriteFault, OutOfMemory, InputTooLong, StreamTooLong}

-- the exit status
abbrev pub code_of : ExplainStatus → ℕ
code_of Nothing = 0
code_of Found = 1
code_of BadWords = 2
code_of FileFault = 5
code_of ReadFault = 6
code_of WriteFault = 7
code_of OutOfMemory = 8
code_of StreamTooLong = 9
code_of InputTooLong = 10

-- the text that the words ask for, where they ask for one
abbrev pub asked_of : List (List ℕ) → Option (List ℕ)
asked_of words = text_asked USAGE.now VERSION.now words

-- the rules that the words spell after the tool's name
abbrev pub mask_rules : List (List ℕ) → Option (List ReplacementView)
mask_rules [] = None
mask_rules (tool ∷ words) = if bytes_eq tool (codes "mask") then rules_in words else None

-- the words after this one, where they begin with it
abbrev pub words_after : List ℕ → List (List ℕ) → Option (List (List ℕ))
words_after name [] = None
words_after name (tool ∷ words) = if bytes_eq tool name then Some words else None

-- the words after `front`
abbrev pub front_words : List (List ℕ) → Option (List (List ℕ))
front_words words = words_after (codes "front") words

abbrev pub is_json : List ℕ → Bool
is_json word = bytes_eq word (codes "--json")

-- a flag of `stream`
abbrev pub is_flag : List ℕ → Bool
is_flag word = is_json word || is_literal word

abbrev pub form_if : Bool → Form
form_if json = if json then Json else Plain

abbrev pub one_if : Bool → ℕ
one_if counts = if counts then 1 else 0

-- of the first word that is no flag: it is the workspace, where all the others are flags, none twice
abbrev pub stream_by : Bool → Bool → ℕ → Option (List ℕ) → Option StreamWords
stream_by json literal count None = None
stream_by json literal count (Some workspace) = if count == 1 + one_if json + one_if literal then Some (stream_at (form_if json) workspace literal) else None

-- what words ask of a stream: they are a workspace, and the flags `--json` and `--literal`, each at most once, in any order
abbrev pub stream_in : List (List ℕ) → Option StreamWords
stream_in words = stream_by (list_any is_json words) (list_any is_literal words) (length words) (find (λ word. not (is_flag word)) words)

-- what the words ask of a stream after `stream`
abbrev pub stream_of : List (List ℕ) → Option StreamWords
stream_of words = option_and_then stream_in (words_after (codes "stream") words)

-- a text that was asked for was written, or a part of its front where the sink failed
abbrev pub IsTold : List ℕ → ExplainStatus → Option (List ℕ) → Option (List ℕ) → Type 0
IsTold text Nothing written written' = (w : List ℕ) → written ≡ Some w → written' ≡ Some (w ++ text)
IsTold text WriteFault written written' = (w : List ℕ) → written ≡ Some w → HoldsFront text w written'
IsTold text _ written written' = ⊥

-- `BadWords` exactly where the words spell no rules after the tool's name; there may be no memory to read them
abbrev pub RulesCause : List (List ℕ) → ExplainStatus → Type 0
RulesCause words BadWords = mask_rules words ≡ None
RulesCause words OutOfMemory = Unit {0}
RulesCause words _ = (rules : List ReplacementView) × (mask_rules words ≡ Some rules)

-- the words ask for something: they spell such rules, or ask for a stream, a page or a text
pub data AreWords (words : List (List ℕ)) : Type 0 where
  of_rules : (rules : List ReplacementView) → mask_rules words ≡ Some rules → AreWords words
  of_stream : (said : StreamWords) → stream_of words ≡ Some said → AreWords words
  of_front : (rest : List (List ℕ)) → front_words words ≡ Some rest → AreWords words
  of_text : (text : List ℕ) → asked_of words ≡ Some text → AreWords words

-- `BadWords` exactly where the words ask for nothing
abbrev pub WordsCause : List (List ℕ) → ExplainStatus → Type 0
WordsCause words BadWords = AreWords words → ⊥
WordsCause words OutOfMemory = Unit {0}
WordsCause words _ = AreWords words

-- the run of these words ended with this status
pub record IsRunOf (words : List (List ℕ)) (files : Option Files) (status : ExplainStatus) (left left' written written' : Option (List ℕ)) : Type 0 where
  pub words_cause : WordsCause words status
  pub told : (text : List ℕ) → asked_of words ≡ Some text → IsTold text status written written'
  pub stream : (said : StreamWords) → stream_of words ≡ Some said → StreamRun said files status left left' written written'
  pub front : (rest : List (List ℕ)) → front_words words ≡ Some rest → FrontRun rest status left left' written written'
  pub leaves : (rules : List ReplacementView) → asked_of words ≡ None → mask_rules words ≡ Some rules → LeavesOf rules status left written written'

-- the workspace in which unused files are to be named, after the word `unused`
abbrev pub unused_of : List (List ℕ) → Option (List ℕ)
unused_of (tool ∷ workspace ∷ []) = if bytes_eq tool (codes "unused") then Some workspace else None
unused_of _ = None

-- the words of a review, after the word `review`
abbrev pub review_of : List (List ℕ) → Option (List (List ℕ))
review_of words = words_after (codes "review") words

-- how the run of these words ended, by its exit status: it named unused files or told why a review would be refused, where they ask for
-- that, and explained what else they ask for
pub data EndsBy (code : ℕ) (words : List (List ℕ)) (files : Option Files) (left left' written written' : Option (List ℕ)) : Type 0 where
  by_naming : (workspace : List ℕ) (ended : UnusedStatus) → unused_of words ≡ Some workspace → code ≡ unused_code ended → UnusedRun workspace files ended left left' written written'
      → EndsBy code words files left left' written written'
  by_previewing : (review : List (List ℕ)) (ended : ReasonStatus) → review_of words ≡ Some review → code ≡ reason_code ended → ReviewExplained review ended files written written' → left' ≡ left
      → EndsBy code words files left left' written written'
  by_explaining : (ended : ExplainStatus) → unused_of words ≡ None → review_of words ≡ None → code ≡ code_of ended → IsRunOf words files ended left left' written written' → EndsBy code words files left left' written written'

-- how the program ended, by its exit status: as the run of the words, where all arguments are texts, or without memory for them; and else
-- with that of wrong words. Nothing is begun but by the run
abbrev pub Ends : ℕ → Option (List (List ℕ)) → Option Files → Option (List ℕ) → Option (List ℕ) → Option (List ℕ) → Option (List ℕ) → Type 0
Ends code None files left left' written written' = ((code ≡ code_of BadWords) ⊎ (code ≡ code_of OutOfMemory)) × IsNotBegun left left' written written'
Ends code (Some words) files left left' written written' = EndsBy code words files left left' written written' ⊎ ((code ≡ code_of OutOfMemory) × IsNotBegun left left' written written')
