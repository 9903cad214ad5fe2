-- What an assertion by any comparator answers.
use Rattle.std.specs.Prelude.{◌≡◌, ◌&&◌, Bool, not, Option, Ok}
use Rattle.snap_content.specs.List.{items_of}
use Rattle.snap_io.specs.Files.{Files}
use Rattle.snap_io.specs.Outside.{Given, Becomes}
use Rattle.snap_assert.specs.Assertions.{Assertion, asked_under}
use Rattle.snap_assert.specs.Courses.{Course, course_of}
use Rattle.snap_assert.specs.Prepared.{IsPassedBy}
use Rattle.snap_assert.specs.Relations.{Relation}
use Rattle.snap_assert.specs.Session.{SessionView}
use Rattle.snap_assert.specs.Steps.{Asked, step, verdict_of, is_failure}
use Rattle.snap_assert_settings.specs.declared.config.Config.{Config}
use Rattle.snap_assert.specs.declared.outcome.Outcome.{Outcome}

-- what is asked of the files is answered: by a pass exactly where the relation holds of what the file is read as, with the verdict by
-- the mode, and with the files of the step where they are told
pub record IsDoneBy (relation : Relation) (config : Config) (asked : Asked) (outcome : Outcome) (files files' : Option Files) : Type 0 where
  pub passed : Bool
  pub verdict : outcome.verdict ≡ verdict_of config.update passed
  pub path : outcome.path ≡ asked.path
  pub fails : outcome.fails ≡ (is_failure outcome.verdict && not config.force_pass)
  pub passes : Given files (λ m. IsPassedBy relation asked m passed (items_of outcome.warnings))
  pub stands : Becomes files files' (λ m. step config.update config.force_update asked passed m)

-- an assertion is answered by the relation: whatever the files are, it goes on under the name of its course, and what is remembered is
-- that of the course
pub record IsAnsweredBy (relation : Relation) (config : Config) (assertion : Assertion) (outcome : Outcome) (files files' : Option Files) (session session' : SessionView) : Type 0 where
  pub course : Course
  pub course_is : course_of assertion session ≡ Ok course
  pub remembered : session' ≡ course.session
  pub done : IsDoneBy relation config (asked_under assertion course.name) outcome files files'
