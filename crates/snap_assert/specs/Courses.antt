-- Which course an assertion takes, by what is remembered alone: it goes on under a name, or it is refused. No file decides it.
use Rattle.std.specs.Prelude.{ℕ, List, Option, None, Some, Result, Ok, Err}
use Rattle.snap_io.specs.Files.{Files}
use Rattle.snap_assert_place.specs.SnapshotPath.{path_of}
use Rattle.snap_assert.specs.Assertions.{Assertion, asked_under, key_under, new_contents}
use Rattle.snap_assert.specs.Blocks.{keep_step}
use Rattle.snap_assert.specs.Names.{Named, name_step}
use Rattle.snap_assert.specs.Session.{SessionView}
use Rattle.snap_assert.specs.Steps.{cleared}
use Rattle.snap_assert.specs.declared.error.AssertError.{AssertError}

-- it goes on: its name, and what is remembered then
pub record Course : Type 0 where
  pub name : List ℕ
  pub session : SessionView

-- it is refused: why, what is remembered then, and the name that it had taken, where a block refused it after that
pub record Refused : Type 0 where
  pub error : AssertError
  pub session : SessionView
  pub taken : Option (List ℕ)

abbrev pub kept_course : Named → Result SessionView AssertError → Result Course Refused
kept_course named (Ok session) = Ok (record { name = named.name; session = session })
kept_course named (Err error) = Err (record { error = error; session = named.session; taken = Some named.name })

-- once the name is taken the innermost block is asked
abbrev pub named_course : Assertion → SessionView → Result Named AssertError → Result Course Refused
named_course a session (Err error) = Err (record { error = error; session = session; taken = None })
named_course a session (Ok named) = kept_course named (keep_step (key_under a.place named.name) (new_contents (asked_under a named.name)) named.session)

-- the name is taken, and an open block is asked
abbrev pub course_of : Assertion → SessionView → Result Course Refused
course_of a session = named_course a session (name_step a.settings a.place a.given session)

-- what is remembered after it
abbrev pub session_after : Result Course Refused → SessionView
session_after (Ok course) = course.session
session_after (Err refused) = refused.session

-- a block refuses an assertion when the strays are gone; before that no file is touched
abbrev pub cleared_at : Assertion → Option (List ℕ) → Files → Files
cleared_at a None files = files
cleared_at a (Some name) files = cleared (path_of a.settings a.place name) files
