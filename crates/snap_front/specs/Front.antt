-- What the program answers, by what is wanted and by its input.
use Rattle.std.specs.Prelude.{◌≡◌, ℕ, Bool, true, false, List, [], Option, None, Some, Result, Ok, Err, encode_utf8_all}
use Rattle.std.specs.Borrow.{Bor}
use Rattle.std.specs.Str.{IsUtf8, chars}
use Rattle.snap_content.specs.Plain.{Plain, dict, Entries, plain, content_of}
use Rattle.snap_content.specs.Tree as t
use Rattle.snap_content.specs.View.{tree}
use Rattle.snap_content.specs.declared.content.Content.{Content}
use Rattle.snap_print.specs.Blocks.{off}
use Rattle.snap_print.specs.Lines.{text_of}
use Rattle.snap_front.specs.Commands.{CommandView, puts, gets, sets, removes, prints, ReplyView, done, given, printed, absent, reply_of}
use Rattle.snap_front.specs.Documents.{Docs}
use Rattle.snap_front.specs.Heads.{Changed, set_head, remove_head}
use Rattle.snap_front.specs.Kept.{body_of, IsPrintOf}
use Rattle.snap_front.specs.Paths.{steps_of}
use Rattle.snap_front.specs.Reading.{MayReadAs, ReadsAs}
use Rattle.snap_front.specs.Runs.{Comes}
use Rattle.snap_front.specs.Split.{front_read}
use Rattle.snap_front.specs.TreePaths.{get_tree}
use Rattle.snap_front.specs.Wanted.{Wanted, to_get, to_set, to_remove, to_format, wanted_in, value_text, AreBad}
use Rattle.snap_front.specs.declared.front_error.FrontError.{FrontError}
use Rattle.snap_front.specs.declared.front_error.FrontError.TheVariants.{BadWords, NotText, Refused, OutOfMemory}
use Rattle.snap_front.specs.declared.words.Request.{Request}
use Rattle.snap_front.specs.declared.words.Request.TheVariants as q

-- the command on the program's one document, which has an empty name
abbrev pub IsCommand : Wanted → CommandView → Type 0
IsCommand (to_get steps) command = command ≡ gets [] steps
IsCommand (to_set steps value) command = (p : Plain) × MayReadAs (value_text value) p × (command ≡ sets [] steps (content_of p))
IsCommand (to_remove steps) command = command ≡ removes [] steps
IsCommand to_format command = command ≡ prints []

-- a reply that says why nothing was done
abbrev pub is_refusal : ReplyView → Bool
is_refusal done = false
is_refusal (given part) = false
is_refusal (printed text) = false
is_refusal other = true

-- the text of the tree that was got; or the document as it is printed after what was done
abbrev pub IsText : Wanted → Docs → ReplyView → List ℕ → Type 0
IsText (to_get steps) docs reply out = (part : t.Tree) × (reply ≡ given part) × (out ≡ text_of off (plain part))
IsText wanted docs reply out = (is_refusal reply ≡ false) × Comes docs (prints []) (docs, printed out)

-- a document that is printed has the body of the text, and is put again, under any name, as what it was printed of
abbrev pub KeepsBody : Wanted → List ℕ → List ℕ → Type 0
KeepsBody (to_get steps) text out = Unit {0}
KeepsBody wanted text out = (head : t.Tree) × (body : List ℕ) × (body_of text ≡ Some body) × IsPrintOf head body out

-- the text was put as a document, the command was done, and this is the answer
pub record Gives (wanted : Wanted) (text out : List ℕ) : Type 0 where
  pub command : CommandView
  pub is : IsCommand wanted command
  pub before : Docs
  pub put : Comes [] (puts [] text) (before, done)
  pub docs : Docs
  pub reply : ReplyView
  pub ran : Comes before command (docs, reply)
  pub answer : IsText wanted docs reply out
  pub keeps : KeepsBody wanted text out

-- the text was refused as a document, or the command was refused
pub data Refuses (wanted : Wanted) (text : List ℕ) (reply : ReplyView) : Type 0 where
  at_document : Comes [] (puts [] text) ([], reply) → is_refusal reply ≡ true → Refuses wanted text reply
  at_command : (command : CommandView) (docs : Docs) → IsCommand wanted command → Comes [] (puts [] text) (docs, done) → Comes docs command (docs, reply) → is_refusal reply ≡ true
      → Refuses wanted text reply

-- where a value is to be set, it reads as a tree
abbrev pub ValueReads : Option Wanted → Type 0
ValueReads (Some (to_set steps value)) = (p : Plain) × ReadsAs (value_text value) p
ValueReads wanted = Unit {0}

-- an answer: the words ask for it, and the input is a text
pub record IsAnswer (words : List (List ℕ)) (document out : List ℕ) : Type 0 where
  pub wanted : Wanted
  pub asked : wanted_in words ≡ Some wanted
  pub utf8 : IsUtf8 document
  pub text : List ℕ
  pub gives : Gives wanted (chars document) text
  pub bytes : out ≡ encode_utf8_all text

-- a refusal of an input that is a text
pub record IsRefusal (words : List (List ℕ)) (document : List ℕ) (reply : ReplyView) : Type 0 where
  pub wanted : Wanted
  pub asked : wanted_in words ≡ Some wanted
  pub utf8 : IsUtf8 document
  pub refuses : Refuses wanted (chars document) reply

-- an input that is no text; the words ask for something
pub record IsNoText (words : List (List ℕ)) (document : List ℕ) : Type 0 where
  pub wanted : Wanted
  pub asked : wanted_in words ≡ Some wanted
  pub no_utf8 : IsUtf8 document → ⊥

-- why there is no answer
abbrev pub HasNoAnswer : List (List ℕ) → List ℕ → FrontError → Type 0
HasNoAnswer words document BadWords = AreBad (wanted_in words)
HasNoAnswer words document NotText = IsNoText words document
HasNoAnswer words document (Refused reply) = IsRefusal words document (reply_of reply)
HasNoAnswer words document OutOfMemory = Unit {0}

-- the same once the words and the text were read: the text that is answered, or why there is none
abbrev pub IsTextAnswer : Wanted → List ℕ → Result (List ℕ) FrontError → Type 0
IsTextAnswer wanted text (Ok out) = Gives wanted text out
IsTextAnswer wanted text (Err BadWords) = ⊥
IsTextAnswer wanted text (Err NotText) = ⊥
IsTextAnswer wanted text (Err (Refused reply)) = Refuses wanted text (reply_of reply)
IsTextAnswer wanted text (Err OutOfMemory) = Unit {0}

-- the document with the new head, printed; or the reply that says why there is no new head
abbrev pub IsPrinted : Changed → List ℕ → Result (List ℕ) FrontError → Type 0
IsPrinted changed body (Ok out) = (new : t.Tree) × (changed.0 ≡ Some new) × (is_refusal changed.1 ≡ false) × IsPrintOf new body out
IsPrinted changed body (Err BadWords) = ⊥
IsPrinted changed body (Err NotText) = ⊥
IsPrinted changed body (Err (Refused reply)) = (changed ≡ (None, reply_of reply)) × (is_refusal (reply_of reply) ≡ true)
IsPrinted changed body (Err OutOfMemory) = Unit {0}

-- the text of what was got, or that it is absent
abbrev pub IsGot : Option t.Tree → Result (List ℕ) FrontError → Type 0
IsGot part (Ok out) = (tree : t.Tree) × (part ≡ Some tree) × (out ≡ text_of off (plain tree))
IsGot part (Err BadWords) = ⊥
IsGot part (Err NotText) = ⊥
IsGot part (Err (Refused reply)) = (part ≡ None) × (reply_of reply ≡ absent)
IsGot part (Err OutOfMemory) = Unit {0}

-- the document, printed
abbrev pub IsFormatted : t.Tree → List ℕ → Result (List ℕ) FrontError → Type 0
IsFormatted head body (Ok out) = IsPrintOf head body out
IsFormatted head body (Err BadWords) = ⊥
IsFormatted head body (Err NotText) = ⊥
IsFormatted head body (Err (Refused reply)) = ⊥
IsFormatted head body (Err OutOfMemory) = Unit {0}

-- what is answered to a request, of a document with this head and body
abbrev pub IsDone : Request → t.Tree → List ℕ → Result (List ℕ) FrontError → Type 0
IsDone (q.Get path) head body result = IsGot (get_tree (steps_of path) head) result
IsDone (q.Set path made) head body result = IsPrinted (set_head (steps_of path) (tree made) head) body result
IsDone (q.Remove path) head body result = IsPrinted (remove_head (steps_of path) head) body result
IsDone q.Format head body result = IsFormatted head body result

-- the head and the body of a text that is put as a document
pub record HasHead (text : List ℕ) (head : t.Tree) (body : List ℕ) : Type 0 where
  pub header : List ℕ
  pub read : front_read text ≡ Some (header, body)
  pub entries : Entries
  pub is : head ≡ content_of (dict entries)
  pub may : MayReadAs header (dict entries)

-- what was read of a text: the head and the body of the document that it is, or why it is none
abbrev pub IsHeadIn : List ℕ → Result (Content × Bor (List ℕ)) FrontError → Type 0
IsHeadIn text (Ok parts) = HasHead text (tree parts.0) (chars parts.1.now)
IsHeadIn text (Err BadWords) = ⊥
IsHeadIn text (Err NotText) = ⊥
IsHeadIn text (Err (Refused reply)) = Comes [] (puts [] text) ([], reply_of reply) × (is_refusal (reply_of reply) ≡ true)
IsHeadIn text (Err OutOfMemory) = Unit {0}

-- a text that was answered as bytes, unless there is no memory for them; or the same error
abbrev pub AreBytesOf : Result (List ℕ) FrontError → Result (List ℕ) FrontError → Type 0
AreBytesOf (Ok text) (Ok bytes) = bytes ≡ encode_utf8_all text
AreBytesOf (Ok text) (Err error) = error ≡ OutOfMemory
AreBytesOf (Err why) (Ok bytes) = ⊥
AreBytesOf (Err why) (Err error) = error ≡ why
