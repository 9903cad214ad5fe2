-- What stands of an assertion of a literal that stopped by a fault, or out of memory.
use Rattle.std.specs.Prelude.{◌≡◌, ◌&&◌, ℕ, Bool, true, List, [], ◌∷◌, ◌++◌, Option, None, Some, Ok, is_some}
use Rattle.std.specs.FinMap.{get}
use Rattle.snap_io.specs.Changes.{Change}
use Rattle.snap_io.specs.Files.{Files}
use Rattle.snap_io.specs.Outside.{Given}
use Rattle.snap_io.specs.StandsAfter.{StandsAfter}
use Rattle.snap_pending.specs.Saved.{adds}
use Rattle.snap_assert_place.specs.Place.{PlaceView}
use Rattle.snap_assert_place.specs.SnapshotPath.{records_path}
use Rattle.snap_assert.specs.Halts.{named_by}
use Rattle.snap_assert.specs.Kept.{FaultIsAt}
use Rattle.snap_assert.specs.LiteralCourses.{literal_course_of}
use Rattle.snap_assert.specs.LiteralNames.{LiteralNamed}
use Rattle.snap_assert.specs.Literals.{LiteralAssertion, old_literal, new_literal, literal_record, nothing_record, has_record, line_if}
use Rattle.snap_assert.specs.Relations.{Relation, PassesBy}
use Rattle.snap_assert.specs.Session.{SessionView}
use Rattle.snap_assert_settings.specs.declared.config.Config.{Config}
use Rattle.snap_assert.specs.declared.error.AssertError.{AssertError}

-- a line that is to be written is added to the file of records
abbrev pub line_added : PlaceView → Option (List ℕ) → List Change
line_added place None = []
line_added place (Some line) = adds (records_path place) line ∷ []

-- on a pass the record that holds no snapshot is added, where the file of records is there
abbrev pub pass_added : List ℕ → PlaceView → Bool → Bool → List Change
pass_added run_id place passed there = line_added place (line_if (passed && there) (nothing_record run_id place))

-- all changes, in their order: that record, and then the line that is to be written; law `the_records_are_those_of_the_step` holds them
-- to `literal_step`
abbrev pub records_added : List ℕ → PlaceView → Bool → Bool → Option (List ℕ) → List Change
records_added run_id place passed there line = pass_added run_id place passed there ++ line_added place line

-- on a pass it was seen whether the file of records is there
abbrev pub IsThere : PlaceView → Bool → Bool → Option Files → Type 0
IsThere place passed there files = passed ≡ true → Given files (λ m. there ≡ is_some (get m (records_path place)))

-- the work on the records stopped: nothing was changed, and a fault was one of looking whether their file is there; or that was seen, and of
-- the changes that follow those before one are done, that one is in work, none behind it was begun, and a fault names the file
pub data RecordsHalt (run_id : List ℕ) (place : PlaceView) (passed : Bool) (line : Option (List ℕ)) (error : AssertError) (files files' : Option Files) : Type 0 where
  reading : files' ≡ files → FaultIsAt (records_path place) error → RecordsHalt run_id place passed line error files files'
  adding : (there : Bool) → IsThere place passed there files → StandsAfter (records_added run_id place passed there line) (named_by error) files files'
      → RecordsHalt run_id place passed line error files files'

-- it stopped before that by no fault, and nothing was changed; or in the work on the records, whose line is that of the literal
pub data JudgedHalts (config : Config) (a : LiteralAssertion) (name : Option (List ℕ)) (passed : Bool) (error : AssertError) (files files' : Option Files) : Type 0 where
  unprinted : files' ≡ files → named_by error ≡ None → JudgedHalts config a name passed error files files'
  recording : RecordsHalt config.run_id a.place passed (line_if (has_record config a.place passed) (literal_record config.run_id a name)) error files files'
      → JudgedHalts config a name passed error files files'

-- the same of a literal: nothing was changed before it was seen whether it passes
pub data LiteralHalts (relation : Relation) (config : Config) (a : LiteralAssertion) (name : Option (List ℕ)) (error : AssertError) (files files' : Option Files) : Type 0 where
  uncompared : files' ≡ files → named_by error ≡ None → LiteralHalts relation config a name error files files'
  compared : (passed : Bool) → PassesBy relation (Some (old_literal a)) (new_literal a name) passed → JudgedHalts config a name passed error files files'
      → LiteralHalts relation config a name error files files'

-- the same of its assertion, where it goes on; where it is refused no store is touched
abbrev pub IsLiteralHalted : Relation → Config → LiteralAssertion → AssertError → Option Files → Option Files → SessionView → Type 0
IsLiteralHalted relation config a error files files' session = (course : LiteralNamed) → literal_course_of a session ≡ Ok course
    → LiteralHalts relation config a course.name error files files'
