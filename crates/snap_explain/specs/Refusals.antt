-- What is said of a document that is no request, as bytes.
use Rattle.std.specs.Prelude.{ℕ, List, [], ◌++◌, Option, None, Some, codes, decimal, encode_utf8_all}
use Rattle.snap_scan_tokens.specs.Info.{info_text}
use Rattle.snap_scan_tokens.specs.declared.info.ScanError.TheVariants as scan
use Rattle.snap_emit.specs.declared.refusal.Refusal.{Refusal}
use Rattle.snap_emit.specs.declared.refusal.Refusal.TheVariants as refusal
use Rattle.snap_select.specs.Refusal.{column_of, kind_of}
use Rattle.snap_select.specs.declared.fault.SelectFault.{SelectFault}
use Rattle.snap_select.specs.declared.fault.SelectFault.TheVariants.{BadToken, DeepTwice, TooLarge}
use Rattle.snap_run_requests.specs.Keys.{name_of}
use Rattle.snap_run_requests.specs.declared.key.Key.{Key}
use Rattle.snap_run_requests.specs.declared.key.Key.TheVariants.{Line, Redactions, Sort, Duplicates}
use Rattle.snap_run_requests.specs.declared.fault.KeyFault.{KeyFault}
use Rattle.snap_run_requests.specs.declared.fault.KeyFault.TheVariants.{Missing, Twice, Unknown, WrongKind}
use Rattle.snap_run_requests.specs.declared.fault.RedactionFault.{RedactionFault}
use Rattle.snap_run_requests.specs.declared.fault.RedactionFault.TheVariants as redaction
use Rattle.snap_run_requests.specs.declared.fault.Reason.{Reason}
use Rattle.snap_run_requests.specs.declared.fault.Reason.TheVariants as reason
use Rattle.snap_explain.specs.declared.position.Place.{Place}

-- a column, where one is told
abbrev pub column_text : Option ℕ → List ℕ
column_text None = []
column_text (Some column) = codes ", column " ++ decimal column

-- a place of the stream
abbrev pub place_text : Place → List ℕ
place_text place = codes "line " ++ decimal place.line ++ column_text place.column

-- what a key takes
abbrev pub taken_text : Key → List ℕ
taken_text Line = codes "a whole number below 4,294,967,296"
taken_text Redactions = codes "a list"
taken_text Sort = codes "true or false"
taken_text Duplicates = codes "begin or end"
taken_text _ = codes "a text"

-- what is wrong with a key
abbrev pub key_text : KeyFault → List ℕ
key_text (Missing key) = codes "the key " ++ name_of key ++ codes " is missing"
key_text (Twice key) = codes "the key " ++ name_of key ++ codes " stands twice"
key_text (Unknown place) = codes "an unknown key"
key_text (WrongKind key) = codes "the key " ++ name_of key ++ codes " takes " ++ taken_text key

-- what is wrong in a selector
abbrev pub select_text : SelectFault → List ℕ
select_text BadToken = codes "no selector goes on so"
select_text DeepTwice = codes "a second .**"
select_text TooLarge = codes "a number that is too large"

-- why an item of the redactions is none
abbrev pub redaction_text : RedactionFault → List ℕ
redaction_text redaction.NoMap = codes "no map"
redaction_text (redaction.Key fault) = key_text fault
redaction_text (redaction.NoSelector error) = codes "no selector, character " ++ decimal (column_of error) ++ codes ": " ++ select_text (kind_of error)
redaction_text redaction.NothingPut = codes "neither put nor sort: true"
redaction_text redaction.PutAndSort = codes "both put and sort"

-- why a text is no tree
abbrev pub tree_text : Refusal → List ℕ
tree_text (refusal.NoYaml (scan.Syntax mark info)) = info_text info
tree_text (refusal.NoYaml scan.OutOfMemory) = codes "no YAML"
tree_text refusal.NotOneDocument = codes "not one value"
tree_text refusal.Alias = codes "an alias"
tree_text refusal.NoTree = codes "something in it is no value"
tree_text refusal.Number = codes "a number that is no whole number of 128 bits"

-- why a document is no request
abbrev pub reason_text : Reason → List ℕ
reason_text (reason.NotUtf8 place) = codes "not UTF-8"
reason_text (reason.NoTree refusal) = tree_text refusal
reason_text reason.NoMap = codes "no map"
reason_text (reason.Key fault) = key_text fault
reason_text reason.NoFile = codes "the path at file names no file"
reason_text (reason.NoRedaction place fault) = codes "redactions[" ++ decimal place ++ codes "]: " ++ redaction_text fault

-- what is said of the document with this number, as a line: a place in the stream, why it is no request, and what helps to mend it
abbrev pub refusal_text : ℕ → Place → Reason → List ℕ → List ℕ
refusal_text number place why detail = codes "document " ++ decimal number ++ codes ", " ++ place_text place ++ codes ": " ++ reason_text why ++ encode_utf8_all detail ++ codes "\n"
