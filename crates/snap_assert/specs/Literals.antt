-- What one assertion of a literal leaves.
use Rattle.std.specs.Prelude.{◌&&◌, ◌||◌, ℕ, Bool, true, false, not, List, Option, None, Some, is_some, if◌then◌else◌, encode_utf8_all}
use Rattle.std.specs.FinMap.{get}
use Rattle.snap_io.specs.Files.{Files, appended}
use Rattle.snap_text.specs.declared.contents.TextSnapshotContents.{TextSnapshotContents}
use Rattle.snap_text.specs.declared.contents.TextSnapshotKind.TheVariants.{Inline}
use Rattle.snap_text_literals.specs.OfLiteral.{of_literal}
use Rattle.snap_store.specs.Meta.{empty_meta}
use Rattle.snap_store.specs.Views.{SnapshotView}
use Rattle.snap_store.specs.declared.contents.SnapshotContents.TheVariants.{Text}
use Rattle.snap_pending.specs.Pending.{Pending}
use Rattle.snap_pending.specs.Record.{record_line}
use Rattle.snap_assert_place.specs.Place.{PlaceView}
use Rattle.snap_assert_place.specs.SnapshotPath.{flat_module, is_doctest, new_meta, records_path}
use Rattle.snap_assert_settings.specs.Settings.{SettingsView}
use Rattle.snap_assert_settings.specs.declared.config.Config.{Config}
use Rattle.snap_assert_settings.specs.declared.config.Update.{Update}
use Rattle.snap_assert_settings.specs.declared.config.Update.TheVariants.{InPlace, NewFile, NoUpdate}
use Rattle.snap_assert.specs.Steps.{verdict_of}
use Rattle.snap_assert.specs.declared.outcome.Verdict.{Verdict}

-- what is asserted: at a place, by settings, that the literal which reads as the reference stands for this text
pub record LiteralAssertion : Type 0 where
  pub settings : SettingsView
  pub place : PlaceView
  pub reference : List ℕ
  pub content : List ℕ

-- the assertion of these parts
abbrev pub literal_assertion_of : SettingsView → PlaceView → List ℕ → List ℕ → LiteralAssertion
literal_assertion_of settings place reference content = record { settings = settings; place = place; reference = reference; content = content }

-- a text of a literal
abbrev pub inline_of : List ℕ → TextSnapshotContents
inline_of raw = record { raw = raw; kind = Inline }

-- what the literal in the source stands for, and the text that is asserted
abbrev pub old_text : LiteralAssertion → TextSnapshotContents
old_text a = inline_of (of_literal a.reference)

abbrev pub new_text : LiteralAssertion → TextSnapshotContents
new_text a = inline_of a.content

-- the snapshot in the source: it has no name and no metadata
abbrev pub old_literal : LiteralAssertion → SnapshotView
old_literal a = record {
  module_name = flat_module a.place.module_name;
  snapshot_name = None;
  meta = empty_meta;
  contents = Text (old_text a);
  was_legacy = false;
  number_as_text = false;
}

-- the snapshot that is made, under the name that is taken or without one
abbrev pub new_literal : LiteralAssertion → Option (List ℕ) → SnapshotView
new_literal a name = record {
  module_name = flat_module a.place.module_name;
  snapshot_name = name;
  meta = new_meta a.settings a.place;
  contents = Text (new_text a);
  was_legacy = false;
  number_as_text = false;
}

-- a record of the run at the line of the literal
abbrev pub record_at : List ℕ → PlaceView → Option SnapshotView → Option SnapshotView → Pending
record_at run_id place new old = record { run_id = run_id; line = place.line; new_snapshot = new; old_snapshot = old }

-- the record of a literal: the snapshot that is made, and the one in the source
abbrev pub literal_record : List ℕ → LiteralAssertion → Option (List ℕ) → Pending
literal_record run_id a name = record_at run_id a.place (Some (new_literal a name)) (Some (old_literal a))

-- the record that holds no snapshot
abbrev pub nothing_record : List ℕ → PlaceView → Pending
nothing_record run_id place = record_at run_id place None None

-- with this line after what the file of records holds
abbrev pub with_line : PlaceView → List ℕ → Files → Files
with_line place line files = appended files (records_path place) (encode_utf8_all line)

-- a mode in which something is written
abbrev pub writes : Update → Bool
writes NoUpdate = false
writes InPlace = true
writes NewFile = true

-- a record is called for: something is written, and the text did not pass or is written all the same
abbrev pub calls_for_record : Config → Bool → Bool
calls_for_record config passed = writes config.update && (config.force_update || not passed)

-- and it is written, but in no doctest
abbrev pub has_record : Config → PlaceView → Bool → Bool
has_record config place passed = calls_for_record config passed && not (is_doctest place.function)

-- in a doctest it is left out
abbrev pub leaves_out : Config → PlaceView → Bool → Bool
leaves_out config place passed = calls_for_record config passed && is_doctest place.function

-- on a pass the record that holds no snapshot is written, where the file of records is there
abbrev pub settled : List ℕ → PlaceView → Bool → Files → Files
settled run_id place true files =
    if is_some (get files (records_path place)) then with_line place (record_line (nothing_record run_id place)) files else files
settled run_id place false files = files

-- where a line is to be written it stands after what the file of records holds
abbrev pub with_line_if : Option (List ℕ) → PlaceView → Files → Files
with_line_if None place files = files
with_line_if (Some line) place files = with_line place line files

-- the line that is to be written, where a record is
abbrev pub line_if : Bool → Pending → Option (List ℕ)
line_if true pending = Some (record_line pending)
line_if false pending = None

-- the files after an assertion; no path changes but that of the records
abbrev pub literal_step : Config → LiteralAssertion → Option (List ℕ) → Bool → Files → Files
literal_step config a name passed files =
    with_line_if (line_if (has_record config a.place passed) (literal_record config.run_id a name)) a.place (settled config.run_id a.place passed files)

-- a literal is never written in place: it waits for a review
abbrev pub literal_mode : Update → Update
literal_mode InPlace = NewFile
literal_mode NewFile = NewFile
literal_mode NoUpdate = NoUpdate

-- the verdict by the mode
abbrev pub literal_verdict : Update → Bool → Verdict
literal_verdict mode passed = verdict_of (literal_mode mode) passed
