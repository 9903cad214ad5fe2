-- What the settings of an assertion say.
use Rattle.std.specs.Prelude.{ℕ, Bool, true, false, List, Option, None, Some, codes, option_map}
use Rattle.snap_content.specs.Tree.{Tree}
use Rattle.snap_content.specs.View.{tree}
use Rattle.snap_store.specs.Meta.{shown_text}
use Rattle.snap_select.specs.Put.{Objects}
use Rattle.snap_select.specs.SortedTree.{sorted_tree}
use Rattle.snap_select.specs.declared.redaction.Redaction.{Redaction}
use Rattle.snap_assert_settings.specs.Redactions.{RedactionView, redactions_of, RedactedBy}
use Rattle.snap_assert_settings.specs.declared.settings.Settings.{Settings}

-- what settings hold, but for the redactions
pub record SettingsView : Type 0 where
  pub sort_maps : Bool
  pub snapshot_path : List ℕ
  pub suffix : Option (List ℕ)
  pub prepends_module : Bool
  pub omits_expression : Bool
  pub description : Option (List ℕ)
  pub info : Option Tree
  pub input_file : Option (List ℕ)

-- the settings that nobody changed
abbrev pub new_settings : SettingsView
new_settings = record {
  sort_maps = false;
  snapshot_path = codes "snapshots";
  suffix = None;
  prepends_module = true;
  omits_expression = false;
  description = None;
  info = None;
  input_file = None;
}

-- what settings are seen as; a suffix that is empty is none
abbrev pub settings_of : {X : Type 0} {P : X → Type 0} {Y : Type 0} {Q : Y → Type 0} {g : _} → Settings X Y P Q g → SettingsView
settings_of settings = record {
  sort_maps = settings.sort_maps;
  snapshot_path = settings.snapshot_path;
  suffix = shown_text (Some settings.snapshot_suffix);
  prepends_module = settings.prepends_module;
  omits_expression = settings.omits_expression;
  description = settings.description;
  info = option_map tree settings.info;
  input_file = settings.input_file;
}

-- what the redactions of settings are seen as
abbrev pub redactions_in : {X : Type 0} {P : X → Type 0} {Y : Type 0} {Q : Y → Type 0} {g : _} → Settings X Y P Q g → List (RedactionView (Redaction X Y P Q g))
redactions_in settings = redactions_of settings.redactions

-- the tree with its maps sorted, where that is set
abbrev pub sorted_where : Bool → Tree → Tree
sorted_where true c = sorted_tree c
sorted_where false c = c

-- the tree that is printed: its maps sorted where that is set, and then each redaction in turn
pub record PrintsAs {X : Type 0} {P : X → Type 0} {Y : Type 0} {Q : Y → Type 0} {g : _} (objects : Objects X P) (settings : Settings X Y P Q g) (c out : Tree) : Type 0 where
  pub redacted : RedactedBy objects (redactions_in settings) (sorted_where (settings_of settings).sort_maps c) out
