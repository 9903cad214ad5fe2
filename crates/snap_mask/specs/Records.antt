-- The values that lines are, and their records.
use Rattle.std.specs.Prelude.{◌≡◌, ℕ, true, false, List, Some}
use Rattle.std.specs.Str.{IsUtf8, chars}
use Rattle.snap_content.specs.Plain.{Plain, content_of}
use Rattle.snap_print.specs.Readable.{IsWithin}
use Rattle.snap_content.specs.Tree.{Tree}
use Rattle.snap_content.specs.declared.error.Error.{Error}
use Rattle.snap_content.specs.declared.error.Error.TheVariants as parse
use Rattle.snap_str.specs.Cut.{Lacks}
use Rattle.snap_json.specs.JsonText.{json_text, json_refuses}
use Rattle.snap_json.specs.declared.error.JsonError.{JsonError}
use Rattle.snap_json.specs.declared.error.JsonError.TheVariants as json
use Rattle.snap_json.specs.declared.format.Format.TheVariants.{Condensed}
use Rattle.snap_emit.specs.Pieces.{has_number_piece}
use Rattle.snap_parse_laws_json.specs.Bounded.{IsJsonOf}
use Rattle.snap_assert_settings.specs.Replaced.{ReplacementView, redacted_by}
use Rattle.snap_mask.specs.Beginning.{beginning_in, beginning_of}
use Rattle.snap_mask.specs.declared.record.RecordError.{RecordError}
use Rattle.snap_mask.specs.declared.record.RecordError.TheVariants.{BadLine, FloatLine, JsonKey, OutOfMemory}

-- the line is the condensed JSON text of this tree, whose numbers have 128 bits, which nests at most 1,023 levels and has no key of more
-- than 1,024 characters
pub record IsJsonLine (t : Plain) (line : List ℕ) : Type 0 where
  pub utf8 : IsUtf8 line
  pub within : IsWithin t
  pub json : IsJsonOf t (chars line)

-- the line is the JSON text of no such tree
abbrev pub IsNoJsonLine : List ℕ → Type 0
IsNoJsonLine line = (t : Plain) → IsJsonLine t line → ⊥

-- the line is read as this value: it begins as the JSON text of such a value does, and where it is the JSON text of a tree, the value is
-- that tree
pub record IsValueOf (line : List ℕ) (value : Tree) : Type 0 where
  pub utf8 : IsUtf8 line
  pub whole : Lacks 0 (chars line)
  pub begins : beginning_in (chars line) ≡ Some (beginning_of value)
  pub one : (t : Plain) → IsJsonLine t line → value ≡ content_of t

-- the record of a line: the JSON text of its value once the rules are applied to it
pub record IsRecordOf (rules : List ReplacementView) (line record_text : List ℕ) : Type 0 where
  pub value : Tree
  pub read : IsValueOf line value
  pub accepted : json_refuses (redacted_by rules value) ≡ false
  pub is : record_text ≡ json_text Condensed (redacted_by rules value)

-- a reader of bounded JSON texts reads the record as this tree
pub record IsReadAgainAs (kept : Plain) (record_text : List ℕ) : Type 0 where
  pub within : IsWithin kept
  pub json : IsJsonOf kept record_text

-- a line has a key that JSON refuses, once it is masked
pub record HasRefusedKey (rules : List ReplacementView) (line : List ℕ) : Type 0 where
  pub value : Tree
  pub read : IsValueOf line value
  pub refused : json_refuses (redacted_by rules value) ≡ true

-- why a line is no value
abbrev pub RefusesValue : RecordError → List ℕ → Type 0
RefusesValue BadLine line = IsNoJsonLine line
RefusesValue FloatLine line = IsNoJsonLine line × (has_number_piece (chars line) ≡ true)
RefusesValue JsonKey line = ⊥
RefusesValue OutOfMemory line = Unit {0}

-- why a line has no record
abbrev pub RefusesFor : List ReplacementView → RecordError → List ℕ → Type 0
RefusesFor rules BadLine line = IsNoJsonLine line
RefusesFor rules FloatLine line = IsNoJsonLine line × (has_number_piece (chars line) ≡ true)
RefusesFor rules JsonKey line = IsNoJsonLine line × HasRefusedKey rules line
RefusesFor rules OutOfMemory line = Unit {0}

-- the error of a text that could not be read
abbrev pub parse_stop : Error → RecordError
parse_stop parse.OutOfMemory = OutOfMemory
parse_stop (parse.FloatText path) = FloatLine
parse_stop other = BadLine

-- the error of a tree that could not be written
abbrev pub json_stop : JsonError → RecordError
json_stop json.JsonKey = JsonKey
json_stop json.OutOfMemory = OutOfMemory
