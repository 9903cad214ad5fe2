-- The text of a tree in a format, and how a value ends that is to be written.
use Rattle.std.specs.Prelude.{◌≡◌, ℕ, Bool, true, false, List, Result, Ok, Err}
use Rattle.snap_content.specs.Plain.{plain}
use Rattle.snap_content.specs.Tree.{Tree}
use Rattle.snap_json.specs.JsonText.{json_text, json_refuses, compact_text}
use Rattle.snap_json.specs.declared.error.JsonError.{JsonError}
use Rattle.snap_json.specs.declared.error.JsonError.TheVariants.{JsonKey, OutOfMemory}
use Rattle.snap_json.specs.declared.format.Format.TheVariants.{Pretty}
use Rattle.snap_print.specs.Blocks.{blocks_if}
use Rattle.snap_print.specs.Lines.{text_of}
use Rattle.snap_select.specs.Put.{Objects}
use Rattle.snap_select.specs.declared.redaction.Redaction.{Redaction}
use Rattle.snap_assert_settings.specs.Redactions.{RedactionView, RedactedBy}
use Rattle.snap_assert_settings.specs.Settings.{PrintsAs}
use Rattle.snap_assert_settings.specs.declared.settings.Settings.{Settings}
use Rattle.snap_assert_serialize.specs.declared.format.SerializationFormat.{SerializationFormat}
use Rattle.snap_assert_serialize.specs.declared.format.SerializationFormat.TheVariants.{Yaml, Json, JsonCompact}

-- the text of a tree: YAML as a snapshot's body, with literal blocks where they are asked for; JSON with each element on a line
-- of its own; or JSON on one line where that is short
abbrev pub text_in : SerializationFormat → Bool → Tree → List ℕ
text_in Yaml literal t = text_of (blocks_if literal) (plain t)
text_in Json literal t = json_text Pretty t
text_in JsonCompact literal t = compact_text t

-- the format has no text for a key of the tree: YAML has one for each
abbrev pub refuses : SerializationFormat → Tree → Bool
refuses Yaml t = false
refuses Json t = json_refuses t
refuses JsonCompact t = json_refuses t

-- the text is that of a tree which may be printed, and which the format doesn't refuse
pub record IsTextOf (format : SerializationFormat) (literal : Bool) (may : Tree → Type 0) (text : List ℕ) : Type 0 where
  pub out : Tree
  pub printed : may out
  pub text_is : text ≡ text_in format literal out
  pub accepted : refuses format out ≡ false

-- a tree which may be printed is one that the format refuses
pub record HasRefusedKey (format : SerializationFormat) (may : Tree → Type 0) : Type 0 where
  pub out : Tree
  pub printed : may out
  pub refused : refuses format out ≡ true

-- why there is no text: the format refuses a key, or memory was short
abbrev pub SerializedRefused : SerializationFormat → (Tree → Type 0) → JsonError → Type 0
SerializedRefused format may JsonKey = HasRefusedKey format may
SerializedRefused format may OutOfMemory = Unit {0}

-- how the writing of a value ends, of which these trees may be printed
abbrev pub SerializedEnd : SerializationFormat → Bool → (Tree → Type 0) → Result (List ℕ) JsonError → Type 0
SerializedEnd format literal may (Ok text) = IsTextOf format literal may text
SerializedEnd format literal may (Err error) = SerializedRefused format may error

-- the tree that is printed where redactions come first, and then what the settings say
pub record PrintsAfter {X : Type 0} {P : X → Type 0} {Y : Type 0} {Q : Y → Type 0} {g : _} (objects : Objects X P)
    (redactions : List (RedactionView (Redaction X Y P Q g))) (settings : Settings X Y P Q g) (c out : Tree) : Type 0 where
  pub first : Tree
  pub redacted : RedactedBy objects redactions c first
  pub printed : PrintsAs objects settings first out
