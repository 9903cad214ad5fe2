-- What is said of the value of a request that passes.
use Rattle.std.specs.Prelude.{◌≡◌, ℕ, Bool, true, false, List, [], ◌++◌, Option, None, Some, codes, decimal, encode_utf8_all, if◌then◌else◌}
use Rattle.std.specs.Str.{chars}
use Rattle.snap_run_requests.specs.Requests.{AssertionView, RequestView, asserts, begins, ends}
use Rattle.snap_explain_scalars.specs.Elsewhere.{read_elsewhere}
use Rattle.snap_explain_scalars.specs.Said.{said}
use Rattle.snap_explain_values.specs.Missed.{first_missed}
use Rattle.snap_explain_values.specs.Twice.{has_key_twice}
use Rattle.snap_explain.specs.Json.{finding_line, finding_tree, trouble_lines}
use Rattle.snap_explain.specs.Refusals.{place_text}
use Rattle.snap_explain.specs.declared.form.Form.{Form}
use Rattle.snap_explain.specs.declared.form.Form.TheVariants.{Plain, Json}
use Rattle.snap_explain.specs.declared.position.Place.{Place}
use Rattle.snap_explain.specs.declared.remarks.Remarks.{Remarks}
use Rattle.snap_explain.specs.declared.remarks.Scalar.{Scalar}
use Rattle.snap_explain.specs.declared.trouble.Trouble.{Trouble}
use Rattle.snap_explain.specs.declared.trouble.Trouble.TheVariants as trouble

-- a scalar that is told is one that other readers of YAML take so
abbrev pub IsElsewhere : Option Scalar → Type 0
IsElsewhere None = Unit {0}
IsElsewhere (Some scalar) = read_elsewhere scalar.text ≡ Some scalar.otherwise

-- what is seen of an assertion: the first of its redactions that hits nothing in its value, whether a map of the value has a key twice,
-- and a scalar that other readers take otherwise
pub record AreSeenIn (a : AssertionView) (remarks : Remarks) : Type 0 where
  pub missed : remarks.missed ≡ first_missed a.redactions a.value
  pub twice : remarks.twice ≡ has_key_twice a.value
  pub scalar : IsElsewhere remarks.scalar

abbrev pub no_remarks : Remarks
no_remarks = record { missed = None; twice = false; scalar = None }

-- what is seen of a request: of one that begins or ends a block nothing
abbrev pub AreSeen : RequestView → Remarks → Type 0
AreSeen (asserts a) remarks = AreSeenIn a remarks
AreSeen begins remarks = remarks ≡ no_remarks
AreSeen ends remarks = remarks ≡ no_remarks

-- the redaction at this place of the list hits nothing
abbrev pub missed_text : ℕ → List ℕ
missed_text place = codes "passes; redactions[" ++ decimal place ++ codes "] hits nothing in its value"

abbrev pub twice_text : List ℕ
twice_text = codes "passes; a map in its value has a key twice"

-- the scalar, and how it is taken here and elsewhere
abbrev pub scalar_text : Scalar → List ℕ
scalar_text scalar = codes "passes; " ++ encode_utf8_all scalar.text ++ codes " is " ++ said scalar.otherwise

-- a line that tells this of a request that passes, by its word
abbrev pub remark_line : Form → ℕ → Place → List ℕ → List ℕ → List ℕ
remark_line Plain number place word text = codes "document " ++ decimal number ++ codes ", " ++ place_text place ++ codes ": " ++ text ++ codes "\n"
remark_line Json number place word text = finding_line (finding_tree number place (chars word) None None None (chars text))

-- the line on a redaction that hits nothing
abbrev pub missed_line : Form → ℕ → Place → Option ℕ → List ℕ
missed_line form number place None = []
missed_line form number place (Some missed) = remark_line form number place (codes "missed-redaction") (missed_text missed)

-- the line on a key that stands twice
abbrev pub twice_line : Form → ℕ → Place → Bool → List ℕ
twice_line form number place twice = if twice then remark_line form number place (codes "value-key-twice") twice_text else []

-- the line on a scalar that other readers take otherwise, at its own place
abbrev pub scalar_line : Form → ℕ → Option Scalar → List ℕ
scalar_line form number None = []
scalar_line form number (Some scalar) = remark_line form number scalar.place (codes "read-otherwise") (scalar_text scalar)

-- all that is said of the value of a request that passes
abbrev pub remark_lines : Form → ℕ → Place → Remarks → List ℕ
remark_lines form number place remarks = missed_line form number place remarks.missed ++ twice_line form number place remarks.twice ++ scalar_line form number remarks.scalar

-- what is said of the value, behind what is said else of a request: nothing where it does not pass
abbrev pub lines_behind : Form → ℕ → Place → Trouble → Remarks → List ℕ
lines_behind form number place (trouble.Noted notes file path) remarks = remark_lines form number place remarks
lines_behind form number place what remarks = []

-- all that is said of a request, of which this is to be said, or nothing but what is seen of its value
abbrev pub lines_on : Form → ℕ → Place → Option Trouble → Remarks → List ℕ
lines_on form number place None remarks = remark_lines form number place remarks
lines_on form number place (Some what) remarks = trouble_lines form number place what ++ lines_behind form number place what remarks

-- such lines, with some place
abbrev pub AreLinesOn : Form → ℕ → Option Trouble → Remarks → List ℕ → Type 0
AreLinesOn form number found remarks said = (place : Place) × (said ≡ lines_on form number place found remarks)
