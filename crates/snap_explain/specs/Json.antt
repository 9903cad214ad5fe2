-- Findings as JSON: an object on a line, with a fixed word for each cause.
use Rattle.std.specs.Prelude.{ℕ, Bool, List, [], ◌++◌, Option, None, Some, codes, decimal, encode_utf8_all, if◌then◌else◌}
use Rattle.std.specs.Str.{chars}
use Rattle.snap_content.specs.Tree.{Tree, string, u64, map, TreePairs, no_pairs, pair}
use Rattle.snap_emit.specs.declared.refusal.Refusal.{Refusal}
use Rattle.snap_emit.specs.declared.refusal.Refusal.TheVariants as refusal
use Rattle.snap_json.specs.JsonText.{json_text}
use Rattle.snap_json.specs.declared.format.Format.TheVariants.{Condensed}
use Rattle.snap_run.specs.declared.status.RefusalKind.{RefusalKind}
use Rattle.snap_run.specs.declared.status.RefusalKind.TheVariants.{NameClash, DoctestNeedsName, DuplicateDiffers, NamesExhausted}
use Rattle.snap_run_requests.specs.Keys.{name_of}
use Rattle.snap_run_requests.specs.declared.fault.KeyFault.{KeyFault}
use Rattle.snap_run_requests.specs.declared.fault.KeyFault.TheVariants.{Missing, Twice, Unknown, WrongKind}
use Rattle.snap_run_requests.specs.declared.fault.RedactionFault.{RedactionFault}
use Rattle.snap_run_requests.specs.declared.fault.RedactionFault.TheVariants as redaction
use Rattle.snap_run_requests.specs.declared.fault.Reason.{Reason}
use Rattle.snap_run_requests.specs.declared.fault.Reason.TheVariants as reason
use Rattle.snap_store.specs.MetaTree.{text_pair}
use Rattle.snap_explain.specs.Notes.{earlier_text, has_file_word, outside_text}
use Rattle.snap_explain.specs.Refusals.{place_text, reason_text, refusal_text}
use Rattle.snap_explain.specs.Troubles.{trouble_text, trouble_line}
use Rattle.snap_explain.specs.declared.form.Form.{Form}
use Rattle.snap_explain.specs.declared.form.Form.TheVariants.{Plain, Json}
use Rattle.snap_explain.specs.declared.notes.Notes.{Notes}
use Rattle.snap_explain.specs.declared.position.Place.{Place}
use Rattle.snap_explain.specs.declared.trouble.Cause.{Cause}
use Rattle.snap_explain.specs.declared.trouble.Cause.TheVariants as cause
use Rattle.snap_explain.specs.declared.trouble.Trouble.{Trouble}
use Rattle.snap_explain.specs.declared.trouble.Trouble.TheVariants as trouble

-- the word for why a text is no tree
abbrev pub tree_word : Refusal → List ℕ
tree_word (refusal.NoYaml error) = codes "no-yaml"
tree_word refusal.NotOneDocument = codes "not-one-value"
tree_word refusal.Alias = codes "alias"
tree_word refusal.NoTree = codes "no-value"
tree_word refusal.Number = codes "number"

-- the word for what is wrong with a key
abbrev pub key_word : KeyFault → List ℕ
key_word (Missing key) = codes "missing-key"
key_word (Twice key) = codes "key-twice"
key_word (Unknown place) = codes "unknown-key"
key_word (WrongKind key) = codes "wrong-kind"

-- the word for why an item of the redactions is none
abbrev pub redaction_word : RedactionFault → List ℕ
redaction_word redaction.NoMap = codes "redaction-no-map"
redaction_word (redaction.Key fault) = key_word fault
redaction_word (redaction.NoSelector error) = codes "no-selector"
redaction_word redaction.NothingPut = codes "nothing-put"
redaction_word redaction.PutAndSort = codes "put-and-sort"

-- the word for why a document is no request
abbrev pub reason_word : Reason → List ℕ
reason_word (reason.NotUtf8 place) = codes "not-utf8"
reason_word (reason.NoTree refusal) = tree_word refusal
reason_word reason.NoMap = codes "no-map"
reason_word (reason.Key fault) = key_word fault
reason_word reason.NoFile = codes "no-file"
reason_word (reason.NoRedaction place fault) = redaction_word fault

-- the word for what is wrong with a file
abbrev pub file_word : Cause → List ℕ
file_word cause.Absent = codes "no-snapshot"
file_word cause.NotUtf8 = codes "snapshot-not-utf8"
file_word cause.NoHeader = codes "snapshot-no-yaml"
file_word cause.NoMap = codes "snapshot-no-map"
file_word cause.NoExtension = codes "snapshot-no-extension"
file_word cause.Binary = codes "snapshot-binary"
file_word cause.Differs = codes "snapshot-differs"

-- the word for why what is remembered refuses a request
abbrev pub kind_word : RefusalKind → List ℕ
kind_word NameClash = codes "name-clash"
kind_word DoctestNeedsName = codes "doctest-needs-name"
kind_word DuplicateDiffers = codes "duplicate-differs"
kind_word NamesExhausted = codes "names-exhausted"

-- the word for why a request would not pass, or that it passes with something to be said
abbrev pub trouble_word : Trouble → List ℕ
trouble_word trouble.StrayEnd = codes "no-block"
trouble_word (trouble.Refused kind detail) = kind_word kind
trouble_word (trouble.Unpassed what file path detail) = file_word what
trouble_word (trouble.Noted notes file path) = codes "noted"

-- the key that is wrong: one that isn't known as it stands in the document, where it was seen
abbrev pub key_in : KeyFault → Option (List ℕ) → Option (List ℕ)
key_in (Missing key) seen = Some (chars (name_of key))
key_in (Twice key) seen = Some (chars (name_of key))
key_in (Unknown place) seen = seen
key_in (WrongKind key) seen = Some (chars (name_of key))

-- the key that a reason speaks of, in a request or in an item of its redactions
abbrev pub reason_key : Reason → Option (List ℕ) → Option (List ℕ)
reason_key (reason.Key fault) seen = key_in fault seen
reason_key (reason.NoRedaction place (redaction.Key fault)) seen = key_in fault seen
reason_key _ seen = None

-- the selector that a reason speaks of: that of a number, or one that is none, where it was seen
abbrev pub reason_selector : Reason → Option (List ℕ) → Option (List ℕ)
reason_selector (reason.NoTree refusal.Number) seen = seen
reason_selector (reason.NoRedaction place (redaction.NoSelector error)) seen = seen
reason_selector _ seen = None

-- the path of the file that a finding speaks of: one that gives no pass, or of whose pass something is to be said
abbrev pub trouble_path : Trouble → Option (List ℕ)
trouble_path (trouble.Unpassed what file path detail) = Some file
trouble_path (trouble.Noted notes file path) = Some file
trouble_path _ = None

-- the column, where there is one
abbrev pub column_pair : Option ℕ → TreePairs → TreePairs
column_pair None rest = rest
column_pair (Some column) rest = pair (string (codes "column")) (u64 column) rest

-- the fields of a finding, in their order: the document, its place in the stream, the word for the cause, the key, the selector or the
-- path that it speaks of, and the words of the plain form after the place
abbrev pub finding_pairs : ℕ → Place → List ℕ → Option (List ℕ) → Option (List ℕ) → Option (List ℕ) → List ℕ → TreePairs
finding_pairs number place word key selector path text =
    pair (string (codes "document")) (u64 number) (pair (string (codes "line")) (u64 place.line) (column_pair place.column (
    pair (string (codes "cause")) (string word) (
    text_pair (codes "key") key (text_pair (codes "selector") selector (text_pair (codes "path") path (
    pair (string (codes "text")) (string text) no_pairs)))))))

-- a finding as a map
abbrev pub finding_tree : ℕ → Place → List ℕ → Option (List ℕ) → Option (List ℕ) → Option (List ℕ) → List ℕ → Tree
finding_tree number place word key selector path text = map (finding_pairs number place word key selector path text)

-- the JSON text of a tree, without blanks, as a line
abbrev pub finding_line : Tree → List ℕ
finding_line tree = encode_utf8_all (json_text Condensed tree) ++ codes "\n"

-- what is said in JSON of the document with this number that is no request: what was seen there is a key or a selector
abbrev pub refusal_tree : ℕ → Place → Reason → Option (List ℕ) → List ℕ → Tree
refusal_tree number place why seen detail = finding_tree number place (chars (reason_word why)) (reason_key why seen) (reason_selector why seen) None
    (chars (reason_text why ++ encode_utf8_all detail))

-- what is said in JSON of a request that would not pass
abbrev pub trouble_tree : ℕ → Place → Trouble → Tree
trouble_tree number place what = finding_tree number place (chars (trouble_word what)) None None (trouble_path what) (chars (trouble_text what))

-- what is said of the document with this number that is no request, as a line, in words or in JSON
abbrev pub refusal_in : Form → ℕ → Place → Reason → Option (List ℕ) → List ℕ → List ℕ
refusal_in Plain number place why seen detail = refusal_text number place why detail
refusal_in Json number place why seen detail = finding_line (refusal_tree number place why seen detail)

-- what is said of a request that would not pass, as a line, in words or in JSON
abbrev pub trouble_in : Form → ℕ → Place → Trouble → List ℕ
trouble_in Plain number place what = trouble_line number place what
trouble_in Json number place what = finding_line (trouble_tree number place what)

-- a line that tells this of a request that passes, by its word and with the path of its file, which is told as it is and as a scalar is
-- spelled
abbrev pub word_line : Form → ℕ → Place → List ℕ → List ℕ → List ℕ → List ℕ → List ℕ
word_line Plain number place word text file path = codes "document " ++ decimal number ++ codes ", " ++ place_text place ++ codes ": " ++ text ++ codes ": " ++ encode_utf8_all path ++ codes "\n"
word_line Json number place word text file path =
    finding_line (finding_tree number place (chars word) None None (Some file) (chars (text ++ codes ": " ++ encode_utf8_all path)))

-- the line on the earlier document that asks for the same path, where there is one
abbrev pub earlier_line : Form → ℕ → Place → Option ℕ → List ℕ → List ℕ → List ℕ
earlier_line form number place None file path = []
earlier_line form number place (Some earlier) file path = word_line form number place (codes "asked-twice") (earlier_text earlier) file path

-- the line on a path that leaves the workspace
abbrev pub outside_line : Form → ℕ → Place → Bool → List ℕ → List ℕ → List ℕ
outside_line form number place outside file path = if outside then word_line form number place (codes "outside-workspace") outside_text file path else []

-- the line on the file
abbrev pub file_line : Form → ℕ → Place → Notes → List ℕ → List ℕ → List ℕ
file_line form number place notes file path = if has_file_word notes then trouble_in form number place (trouble.Noted notes file path) else []

-- all lines on a request that passes
abbrev pub note_lines : Form → ℕ → Place → Notes → List ℕ → List ℕ → List ℕ
note_lines form number place notes file path =
    file_line form number place notes file path ++ (earlier_line form number place notes.earlier file path ++ outside_line form number place notes.outside file path)

-- what is said of a request, as lines: one, but for a request that passes, of which each word has its own
abbrev pub trouble_lines : Form → ℕ → Place → Trouble → List ℕ
trouble_lines form number place (trouble.Noted notes file path) = note_lines form number place notes file path
trouble_lines form number place what = trouble_in form number place what
