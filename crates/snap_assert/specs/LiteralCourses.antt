-- Which course an assertion of a literal takes, by what is remembered alone: it goes on, or it is refused. No file decides it.
use Rattle.std.specs.Prelude.{◌≡◌, ◌⊎◌, Result, Ok, Err}
use Rattle.snap_store.specs.declared.contents.SnapshotContents.TheVariants.{Text}
use Rattle.snap_assert_place.specs.Place.{PlaceView}
use Rattle.snap_assert.specs.Blocks.{keep_step}
use Rattle.snap_assert.specs.LiteralNames.{LiteralNamed, literal_name_step}
use Rattle.snap_assert.specs.Literals.{LiteralAssertion, new_text}
use Rattle.snap_assert.specs.Session.{SessionView}
use Rattle.snap_assert.specs.declared.error.AssertError.{AssertError}
use Rattle.snap_assert.specs.declared.error.AssertError.TheVariants.{OutOfMemory, FileIo, JsonKey}
use Rattle.snap_assert.specs.declared.error.DuplicateKey.{DuplicateKey}
use Rattle.snap_assert.specs.declared.error.DuplicateKey.TheVariants.{Inline}

-- it is refused: why, and what is remembered then
pub record LiteralRefused : Type 0 where
  pub error : AssertError
  pub session : SessionView

-- under what an open block keeps the contents: the function, the file and the line
abbrev pub inline_key : PlaceView → DuplicateKey
inline_key place = Inline place.function place.file place.line

abbrev pub literal_kept : LiteralNamed → Result SessionView AssertError → Result LiteralNamed LiteralRefused
literal_kept named (Ok session) = Ok (record { name = named.name; session = session })
literal_kept named (Err error) = Err (record { error = error; session = named.session })

-- once the name is taken the innermost block is asked
abbrev pub literal_course : LiteralAssertion → SessionView → Result LiteralNamed AssertError → Result LiteralNamed LiteralRefused
literal_course a session (Err error) = Err (record { error = error; session = session })
literal_course a session (Ok named) = literal_kept named (keep_step (inline_key a.place) (Text (new_text a)) named.session)

-- the name is taken, where the literal has one, and an open block is asked
abbrev pub literal_course_of : LiteralAssertion → SessionView → Result LiteralNamed LiteralRefused
literal_course_of a session = literal_course a session (literal_name_step a.settings a.place session)

-- after a fault or running out of memory what is remembered is as before, as after the name was taken, or as after the whole course
abbrev pub LiteralMayRemember : LiteralAssertion → SessionView → SessionView → Type 0
LiteralMayRemember a session session' =
    (session' ≡ session) ⊎ (((named : LiteralNamed) × (literal_name_step a.settings a.place session ≡ Ok named) × (session' ≡ named.session))
    ⊎ ((course : LiteralNamed) × (literal_course_of a session ≡ Ok course) × (session' ≡ course.session)))

-- the course is refused with this error, and what is remembered is that of the refusal
pub record IsLiteralRefusal (a : LiteralAssertion) (error : AssertError) (session session' : SessionView) : Type 0 where
  pub refused : LiteralRefused
  pub course_is : literal_course_of a session ≡ Err refused
  pub error_is : refused.error ≡ error
  pub remembered : session' ≡ refused.session

-- why the course comes to no end: no memory, or it is refused
abbrev pub CourseStops : LiteralAssertion → AssertError → SessionView → SessionView → Type 0
CourseStops a OutOfMemory session session' = LiteralMayRemember a session session'
CourseStops a (FileIo path) session session' = ⊥
CourseStops a JsonKey session session' = ⊥
CourseStops a error session session' = IsLiteralRefusal a error session session'
