-- What is asserted.
use Rattle.std.specs.Prelude.{ℕ, List, Option}
use Rattle.snap_content.specs.Plain.{plain}
use Rattle.snap_content.specs.Tree.{Tree}
use Rattle.snap_print.specs.Blocks.{Blocks}
use Rattle.snap_store.specs.declared.contents.SnapshotContents.{SnapshotContents}
use Rattle.snap_assert_place.specs.Place.{PlaceView}
use Rattle.snap_assert_settings.specs.Settings.{SettingsView}
use Rattle.snap_assert.specs.Steps.{Asked, asked_for}
use Rattle.snap_assert.specs.Subjects.{Subject, tree_with, text_as, payload_with, contents_of}
use Rattle.snap_assert.specs.declared.error.DuplicateKey.{DuplicateKey}
use Rattle.snap_assert.specs.declared.error.DuplicateKey.TheVariants.{Named}

-- what is asserted of a file: a tree, a text or a payload, under a given name or none at a place, by settings
pub record Assertion : Type 0 where
  pub settings : SettingsView
  pub place : PlaceView
  pub given : Option (List ℕ)
  pub subject : Subject

-- the assertion of these parts
abbrev pub assertion_about : SettingsView → PlaceView → Option (List ℕ) → Subject → Assertion
assertion_about settings place given subject = record { settings = settings; place = place; given = given; subject = subject }

-- that of the plain form of the tree that is printed, with literal blocks or without
abbrev pub assertion_of : Blocks → SettingsView → PlaceView → Option (List ℕ) → Tree → Assertion
assertion_of blocks settings place given printed = assertion_about settings place given (tree_with blocks (plain printed))

-- that of a text
abbrev pub text_assertion_of : SettingsView → PlaceView → Option (List ℕ) → List ℕ → Assertion
text_assertion_of settings place given text = assertion_about settings place given (text_as text)

-- that of a payload with this extension
abbrev pub payload_assertion_of : SettingsView → PlaceView → Option (List ℕ) → List ℕ → List ℕ → Assertion
payload_assertion_of settings place given extension bytes = assertion_about settings place given (payload_with extension bytes)

-- what is asked of the files under the name that is taken
abbrev pub asked_under : Assertion → List ℕ → Asked
asked_under a name = asked_for a.settings a.place name a.subject

-- under what an open block keeps the contents: the module, and the name that is taken
abbrev pub key_under : PlaceView → List ℕ → DuplicateKey
key_under place name = Named place.module_name name

-- the contents that are compared and kept
abbrev pub new_contents : Asked → SnapshotContents
new_contents asked = contents_of asked.subject
