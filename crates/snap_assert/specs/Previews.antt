-- What an assertion would answer, where no file is touched.
use Rattle.std.specs.Prelude.{◌≡◌, Bool, Option, None, Ok}
use Rattle.snap_io.specs.Files.{Files}
use Rattle.snap_io.specs.Outside.{Given}
use Rattle.snap_store.specs.Views.{contents_in}
use Rattle.snap_assert.specs.Assertions.{Assertion, asked_under, new_contents}
use Rattle.snap_assert.specs.Courses.{Course, course_of}
use Rattle.snap_assert.specs.Default.{default_relation}
use Rattle.snap_assert.specs.Outcomes.{IsStopped}
use Rattle.snap_assert.specs.Prepared.{IsJudged}
use Rattle.snap_assert.specs.Session.{SessionView}
use Rattle.snap_assert.specs.Steps.{Asked}
use Rattle.snap_assert.specs.declared.error.AssertError.{AssertError}
use Rattle.snap_assert.specs.declared.preview.Preview.{Preview}

-- what is asked of the files would be answered so: at its path, with its contents, and as the file there is judged, fully where that is asked
pub record IsForeseen (fully : Bool) (asked : Asked) (preview : Preview) (files : Option Files) : Type 0 where
  pub path : preview.path ≡ asked.path
  pub contents : contents_in preview.snapshot ≡ new_contents asked
  pub judged : Given files (λ m. IsJudged (default_relation fully) asked m preview.judged)

-- an assertion would be answered: whatever the files are, it goes on under the name of its course, and what is remembered is that of the course
pub record IsPreviewed (fully : Bool) (assertion : Assertion) (preview : Preview) (files : Option Files) (session session' : SessionView) : Type 0 where
  pub course : Course
  pub course_is : course_of assertion session ≡ Ok course
  pub remembered : session' ≡ course.session
  pub foreseen : IsForeseen fully (asked_under assertion course.name) preview files

-- an assertion would come to no answer, for a reason for which one comes to none; its strays stay, so of the files nothing is said
abbrev pub IsStoppedBefore : Assertion → AssertError → SessionView → SessionView → Type 0
IsStoppedBefore assertion error session session' = IsStopped assertion error None None session session'
