-- What one assertion leaves.
use Rattle.std.specs.Prelude.{ℕ, Bool, true, false, not, List, ◌∷◌, ◌++◌, Option, None, Some, codes, if◌then◌else◌, encode_utf8_all}
use Rattle.std.specs.FinMap.{remove, retain_keys}
use Rattle.snap_content.specs.Plain.{plain}
use Rattle.snap_content.specs.Tree.{Tree}
use Rattle.snap_io.specs.Changes.{Change, writes, all_changed}
use Rattle.snap_io.specs.Files.{Files}
use Rattle.snap_print.specs.Blocks.{Blocks}
use Rattle.snap_store.specs.Meta.{Meta, header_tree, without_line}
pub use Rattle.snap_store.specs.Image.{pending_path}
use Rattle.snap_store.specs.Image.{image_of}
use Rattle.snap_store.specs.Saving.{beside, payload_of}
use Rattle.snap_assert_settings.specs.Settings.{SettingsView}
use Rattle.snap_path.specs.Names.{past_mark}
use Rattle.snap_assert_place.specs.Place.{PlaceView, holds_slash}
use Rattle.snap_assert_place.specs.SnapshotPath.{path_of, flat_module, new_meta}
use Rattle.snap_assert_place.specs.Names.{suffixed}
use Rattle.snap_assert.specs.Subjects.{Subject, tree_with, body_in, contents_of, kind_for}
use Rattle.snap_assert_settings.specs.declared.config.Update.{Update}
use Rattle.snap_assert_settings.specs.declared.config.Update.TheVariants.{InPlace, NewFile, NoUpdate}
use Rattle.snap_assert.specs.declared.outcome.Verdict.{Verdict}
use Rattle.snap_assert.specs.declared.outcome.Verdict.TheVariants.{Passed, Updated, Pending, Rejected}

-- what is asked of the files: a tree, a text or a payload, under metadata at a path, with the module and the name that are kept with it
pub record Asked : Type 0 where
  pub path : List ℕ
  pub module_name : List ℕ
  pub name : List ℕ
  pub meta : Meta
  pub subject : Subject

-- under a name with its suffix
abbrev pub asked_for : SettingsView → PlaceView → List ℕ → Subject → Asked
asked_for settings place name subject = record {
  path = path_of settings place name;
  module_name = flat_module place.module_name;
  name = name;
  meta = record (new_meta settings place) { kind = kind_for subject };
  subject = subject;
}

-- the plain form of the tree that is printed is asked
abbrev pub asked_as : Blocks → SettingsView → PlaceView → List ℕ → Tree → Asked
asked_as blocks settings place name printed = asked_for settings place name (tree_with blocks (plain printed))

-- under a given name, which gets the suffix of the settings
abbrev pub asked_of : Blocks → SettingsView → PlaceView → List ℕ → Tree → Asked
asked_of blocks settings place name printed = asked_as blocks settings place (suffixed name settings.suffix) printed

-- the path alone, which no tree changes
abbrev pub asked_path : SettingsView → PlaceView → List ℕ → List ℕ
asked_path settings place name = path_of settings place (suffixed name settings.suffix)

-- what is left behind by pending payloads: the pending path, a dot, and more without a slash
abbrev pub stray_front : List ℕ → List ℕ
stray_front path = path ++ codes ".new."

abbrev pub is_slashless : Option (List ℕ) → Bool
is_slashless None = false
is_slashless (Some rest) = not (holds_slash rest)

-- the path may be of a payload that was left beside the other one: what follows its name and `.new.` holds no slash
abbrev pub is_stray : List ℕ → List ℕ → Bool
is_stray path q = is_slashless (past_mark (stray_front path) q)

-- the files without what payloads left behind beside a path
abbrev pub cleared : List ℕ → Files → Files
cleared path files = retain_keys files (λ q. not (is_stray path q))

-- the file of a header and what is asserted, as its bytes; of a tree it is `file_of` the header and the tree
abbrev pub image_bytes : Meta → Subject → List ℕ
image_bytes meta subject = encode_utf8_all (image_of (header_tree meta) (body_in subject))

-- what is written at a path: the file, and then a payload beside it
abbrev pub saved_as : List ℕ → Meta → Subject → List Change
saved_as path meta subject = writes path (image_bytes meta subject) ∷ beside path (payload_of meta (contents_of subject))

-- what is written where it did not pass
abbrev pub written : Update → Asked → Files → Files
written InPlace asked files = all_changed (saved_as asked.path (without_line asked.meta) asked.subject) files
written NewFile asked files = all_changed (saved_as (pending_path asked.path) asked.meta asked.subject) files
written NoUpdate asked files = files

-- on a pass the pending snapshot goes
abbrev pub passed_files : List ℕ → Files → Files
passed_files path files = remove (cleared path files) (pending_path path)

-- the files after an assertion; all other paths keep their bytes
abbrev pub step : Update → Bool → Asked → Bool → Files → Files
step mode force asked true files = if force then written mode asked (passed_files asked.path files) else passed_files asked.path files
step mode force asked false files = written mode asked (cleared asked.path files)

-- the verdict by the mode
abbrev pub failed_verdict : Update → Verdict
failed_verdict InPlace = Updated
failed_verdict NewFile = Pending
failed_verdict NoUpdate = Rejected

abbrev pub verdict_of : Update → Bool → Verdict
verdict_of mode true = Passed
verdict_of mode false = failed_verdict mode

-- a verdict that fails a run
abbrev pub is_failure : Verdict → Bool
is_failure Passed = false
is_failure Updated = false
is_failure Pending = true
is_failure Rejected = true
