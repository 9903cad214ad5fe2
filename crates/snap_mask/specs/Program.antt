-- What the words of a command line ask for, and what a program does.
use Rattle.std.specs.Prelude.{◌≡◌, ◌⊎◌, ◌<◌, ◌≤◌, ◌-◌, ◌^◌, ℕ, List, [], ◌∷◌, ◌++◌, length, Option, None, Some}
use Rattle.snap_content.specs.Plain.{Plain}
use Rattle.snap_str.specs.Cut.{Lacks}
use Rattle.snap_str.specs.Lines.{lines}
use Rattle.snap_io.specs.Streams.{HoldsFront}
use Rattle.snap_io_lines.specs.Ahead.{line_limit, input_limit}
use Rattle.snap_io_words.specs.Asked.{text_asked}
use Rattle.snap_assert_settings.specs.Replaced.{ReplacementView}
use Rattle.snap_mask.specs.Describe.{code_of}
use Rattle.snap_mask.specs.Masked.{LeavesOf}
use Rattle.snap_mask.specs.Records.{IsJsonLine}
use Rattle.snap_mask.specs.Rules.{rules_in}
use Rattle.snap_mask.specs.declared.usage.TheConstants.{USAGE, VERSION}
use Rattle.snap_mask.specs.declared.status.MaskStatus.{MaskStatus}
use Rattle.snap_mask.specs.declared.status.MaskStatus.TheVariants.{Done, BadWords, WriteFault, OutOfMemory}

-- the text that the words ask for, where they ask for one
abbrev pub asked_of : List (List ℕ) → Option (List ℕ)
asked_of words = text_asked USAGE.now VERSION.now words

-- a text that was asked for was written, or a part of its front where the sink failed
abbrev pub IsTold : List ℕ → MaskStatus → Option (List ℕ) → Option (List ℕ) → Type 0
IsTold text Done written written' = (w : List ℕ) → written ≡ Some w → written' ≡ Some (w ++ text)
IsTold text WriteFault written written' = (w : List ℕ) → written ≡ Some w → HoldsFront text w written'
IsTold text _ written written' = ⊥

-- `BadWords` exactly where the words spell no rules; there may be no memory to read them
abbrev pub RulesCause : List (List ℕ) → MaskStatus → Type 0
RulesCause words BadWords = rules_in words ≡ None
RulesCause words OutOfMemory = Unit {0}
RulesCause words _ = (rules : List ReplacementView) × (rules_in words ≡ Some rules)

-- `BadWords` exactly where the words spell no rules and ask for no text
abbrev pub WordsCause : List (List ℕ) → MaskStatus → Type 0
WordsCause words BadWords = (rules_in words ≡ None) × (asked_of words ≡ None)
WordsCause words OutOfMemory = Unit {0}
WordsCause words _ = ((rules : List ReplacementView) × (rules_in words ≡ Some rules)) ⊎ ((text : List ℕ) × (asked_of words ≡ Some text))

-- each line that isn't empty is the JSON text of a bounded tree
abbrev pub AreJson : List (List ℕ) → Type 0
AreJson [] = Unit {0}
AreJson ([] ∷ more) = AreJson more
AreJson ((c ∷ cs) ∷ more) = ((t : Plain) × IsJsonLine t (c ∷ cs)) × AreJson more

-- an input that is no longer than inputs may be, of lines that are no longer than lines may be, each of them empty or JSON
pub record IsProper (input : List ℕ) : Type 0 where
  pub json : AreJson (lines input)
  pub lines_short : (before run rest : List ℕ) → input ≡ before ++ (run ++ rest) → Lacks 10 run → length run ≤ line_limit
  pub short : length input ≤ input_limit

-- no fault: the count stands still, and not at its last value
pub record IsSteady (before now : ℕ) : Type 0 where
  pub same : now ≡ before
  pub below_last : before < 2 ^ 64 - 1

-- the run came to its end, unless there was not enough memory
abbrev pub EndsWell : MaskStatus → Type 0
EndsWell status = (status ≡ Done) ⊎ (status ≡ OutOfMemory)

-- the run of these words ended with this status
pub record IsRunOf (words : List (List ℕ)) (status : MaskStatus) (left written written' : Option (List ℕ)) : Type 0 where
  pub words_cause : WordsCause words status
  pub told : (text : List ℕ) → asked_of words ≡ Some text → IsTold text status written written'
  pub leaves : (rules : List ReplacementView) → asked_of words ≡ None → rules_in words ≡ Some rules → LeavesOf rules status left written written'

-- nothing was begun: nothing was read or written
pub record IsNotBegun (left left' written written' : Option (List ℕ)) : Type 0 where
  pub left_same : left' ≡ left
  pub written_same : written' ≡ written

-- the run of the words, where all arguments are texts, or no memory for them; and else wrong words. Nothing is begun but by the run
abbrev pub RunOfArguments : Option (List (List ℕ)) → MaskStatus → Option (List ℕ) → Option (List ℕ) → Option (List ℕ) → Option (List ℕ) → Type 0
RunOfArguments None status left left' written written' = ((status ≡ BadWords) ⊎ (status ≡ OutOfMemory)) × IsNotBegun left left' written written'
RunOfArguments (Some words) status left left' written written' =
    IsRunOf words status left written written' ⊎ ((status ≡ OutOfMemory) × IsNotBegun left left' written written')

-- how the program ended: with the exit status of one status, which is that of the run of its arguments
pub record Ends (code : ℕ) (words : Option (List (List ℕ))) (left left' written written' : Option (List ℕ)) : Type 0 where
  pub status : MaskStatus
  pub code_is : code ≡ code_of status
  pub run : RunOfArguments words status left left' written written'
