-- Why a request would not pass, or would end a run.
use Rattle.std.specs.Prelude.{◌≡◌, ◌⊎◌, ℕ, Bool, true, false, is_some, List, ◌++◌, codes, decimal, encode_utf8_all, Option, None, Some, Result, Ok, Err}
use Rattle.std.specs.FinMap.{get}
use Rattle.snap_io.specs.Files.{Files}
use Rattle.snap_io.specs.Outside.{Given}
use Rattle.snap_print.specs.Spell.{spell_text}
use Rattle.snap_content.specs.List.{items_of}
use Rattle.snap_store.specs.Image.{pending_path}
use Rattle.snap_explain.specs.Asked.{Known, asked_before, known_behind, known_within, with_asker}
use Rattle.snap_explain.specs.Notes.{has_word, notes_by, notes_text}
use Rattle.snap_explain.specs.Outside.{is_outside}
use Rattle.snap_explain.specs.declared.notes.Notes.{Notes}
use Rattle.snap_store.specs.Reading.{IsNoText, HasUnspelledHeader, HasOtherHeader, LacksExtension, IsReadAs}
use Rattle.snap_store.specs.Views.{contents_in, text_in}
use Rattle.snap_store.specs.declared.snapshot.Snapshot.{Snapshot}
use Rattle.snap_content.specs.declared.error.Error.{Error}
use Rattle.snap_content.specs.declared.error.Error.TheVariants as file
use Rattle.snap_store.specs.declared.contents.SnapshotContents.{SnapshotContents}
use Rattle.snap_assert_place.specs.Place.{names_file}
use Rattle.snap_assert.specs.Courses.{Course, Refused, course_of}
use Rattle.snap_assert.specs.Default.{default_relation}
use Rattle.snap_assert.specs.Prepared.{IsJudged}
use Rattle.snap_assert.specs.Session.{is_open}
use Rattle.snap_assert.specs.Steps.{Asked}
use Rattle.snap_assert.specs.declared.error.AssertError.{AssertError}
use Rattle.snap_assert.specs.declared.error.AssertError.TheVariants as refusal
use Rattle.snap_assert.specs.declared.judge.Judged.{Judged}
use Rattle.snap_run.specs.Answers.{RunWords, assertion_by, asked_by}
use Rattle.snap_run.specs.Refused.{kind_of}
use Rattle.snap_run.specs.declared.status.RefusalKind.{RefusalKind}
use Rattle.snap_run.specs.declared.status.RefusalKind.TheVariants.{NameClash, DoctestNeedsName, DuplicateDiffers, NamesExhausted}
use Rattle.snap_run_requests.specs.Requests.{AssertionView, RequestView, asserts, begins, ends}
use Rattle.snap_explain.specs.Refusals.{place_text}
use Rattle.snap_explain.specs.declared.position.Place.{Place}
use Rattle.snap_explain.specs.declared.trouble.Cause.{Cause}
use Rattle.snap_explain.specs.declared.trouble.Cause.TheVariants as cause
use Rattle.snap_explain.specs.declared.trouble.Trouble.{Trouble}
use Rattle.snap_explain.specs.declared.trouble.Trouble.TheVariants as trouble
use Rattle.snap_explain.specs.declared.telling.TellError.{TellError}
use Rattle.snap_explain.specs.declared.telling.TellError.TheVariants as tell

-- what is wrong with a file
abbrev pub cause_text : Cause → List ℕ
cause_text cause.Absent = codes "no snapshot is there"
cause_text cause.NotUtf8 = codes "the snapshot is not UTF-8"
cause_text cause.NoHeader = codes "the header of the snapshot is no YAML"
cause_text cause.NoMap = codes "the header of the snapshot is no map"
cause_text cause.NoExtension = codes "the header of the snapshot says binary, without an extension"
cause_text cause.Binary = codes "the header of the snapshot says binary"
cause_text cause.Differs = codes "the snapshot differs"

-- why what is remembered refuses a request
abbrev pub kind_text : RefusalKind → List ℕ
kind_text NameClash = codes "another function, with or without test_, has the same name"
kind_text DoctestNeedsName = codes "a doctest without a name"
kind_text DuplicateDiffers = codes "the open block of duplicates has another value under this name"
kind_text NamesExhausted = codes "no number is left for this name"

-- why a request would not pass, or what is to be said of one that passes: of a refusal what stands against it, of a file its path, as a scalar is spelled, and what helps
abbrev pub trouble_text : Trouble → List ℕ
trouble_text trouble.StrayEnd = codes "no block of duplicates is open"
trouble_text (trouble.Refused kind detail) = kind_text kind ++ encode_utf8_all detail
trouble_text (trouble.Unpassed what file path detail) = cause_text what ++ codes ": " ++ encode_utf8_all path ++ encode_utf8_all detail
trouble_text (trouble.Noted notes file path) = notes_text notes ++ codes ": " ++ encode_utf8_all path

-- what is said of the document with this number, as a line
abbrev pub trouble_line : ℕ → Place → Trouble → List ℕ
trouble_line number place what = codes "document " ++ decimal number ++ codes ", " ++ place_text place ++ codes ": " ++ trouble_text what ++ codes "\n"

-- the file is read as a snapshot whose contents are no text
pub record IsBinaryFile (file : Option (List ℕ)) : Type 0 where
  pub snapshot : Snapshot
  pub read : IsReadAs file snapshot
  pub payload : text_in (contents_in snapshot) ≡ None

-- the file is read as a snapshot whose contents are a text
pub record IsTextSnapshot (file : Option (List ℕ)) : Type 0 where
  pub snapshot : Snapshot
  pub read : IsReadAs file snapshot
  pub text : List ℕ
  pub text_is : text_in (contents_in snapshot) ≡ Some text

-- the cause holds of the file: it is read so, or refused so
abbrev pub IsCauseOf : Option (List ℕ) → Cause → Type 0
IsCauseOf file cause.Absent = file ≡ None
IsCauseOf file cause.NotUtf8 = IsNoText file
IsCauseOf file cause.NoHeader = HasUnspelledHeader file
IsCauseOf file cause.NoMap = HasOtherHeader file
IsCauseOf file cause.NoExtension = LacksExtension file
IsCauseOf file cause.Binary = IsBinaryFile file
IsCauseOf file cause.Differs = IsTextSnapshot file

-- the engine's own comparison, fully where that is asked, comes to a pass, or to none
pub record ComesTo (fully : Bool) (asked : Asked) (passed : Bool) (m : Files) : Type 0 where
  pub judged : Judged
  pub compared : IsJudged (default_relation fully) asked m judged
  pub so : judged.passed ≡ passed

-- the engine's own comparison comes to a pass, and these are to be said: what it warns of, whether a pending snapshot waits beside
-- the file, which earlier document asks for the path, and whether that leaves the workspace
pub record PassesWith (workspace : List ℕ) (earlier : Option ℕ) (fully : Bool) (asked : Asked) (notes : Notes) (m : Files) : Type 0 where
  pub judged : Judged
  pub compared : IsJudged (default_relation fully) asked m judged
  pub passed : judged.passed ≡ true
  pub told : notes ≡ notes_by (is_some (get m (pending_path asked.path))) (items_of judged.warnings) earlier (is_outside workspace asked.path)

-- what is asked of the files would pass, and nothing is to be said of it
pub record Passes (workspace : List ℕ) (earlier : Option ℕ) (fully : Bool) (asked : Asked) (files : Option Files) : Type 0 where
  pub notes : Notes
  pub holds : Given files (λ m. PassesWith workspace earlier fully asked notes m)
  pub silent : has_word notes ≡ false

-- what is asked of the files would pass, and something is to be said of it, which is told with the path of the file, as it is and as a scalar is spelled
pub record IsNoted (workspace : List ℕ) (earlier : Option ℕ) (fully : Bool) (asked : Asked) (files : Option Files) (what : Trouble) : Type 0 where
  pub notes : Notes
  pub spelled : List ℕ
  pub is : what ≡ trouble.Noted notes asked.path spelled
  pub path_is : spelled ≡ spell_text asked.path
  pub holds : Given files (λ m. PassesWith workspace earlier fully asked notes m)
  pub worded : has_word notes ≡ true

-- a cause of contents: a payload, or a text
abbrev pub IsContentCause : SnapshotContents → Cause → Type 0
IsContentCause contents cause.Binary = text_in contents ≡ None
IsContentCause contents cause.Differs = (text : List ℕ) × (text_in contents ≡ Some text)
IsContentCause contents _ = ⊥

-- what is refused in a file, or that it couldn't be read; no snapshot is refused for the last two errors
abbrev pub unread : Error → Result Cause TellError
unread (file.NoFile path) = Ok cause.Absent
unread (file.NotText path) = Ok cause.NotUtf8
unread (file.FailedParsingYaml path) = Ok cause.NoHeader
unread file.UnexpectedDataType = Ok cause.NoMap
unread file.MissingField = Ok cause.NoExtension
unread (file.FileIo path) = Err tell.FileFault
unread file.OutOfMemory = Err tell.OutOfMemory
unread (file.FloatText path) = Err tell.OutOfMemory
unread file.JsonKey = Err tell.OutOfMemory

-- the cause holds of the file at the path, which is told as it is and as a scalar is spelled
pub record IsUnpassedBy (path : List ℕ) (files : Option Files) (what : Trouble) : Type 0 where
  pub cause : Cause
  pub spelled : List ℕ
  pub detail : List ℕ
  pub is : what ≡ trouble.Unpassed cause path spelled detail
  pub path_is : spelled ≡ spell_text path
  pub holds : Given files (λ m. IsCauseOf (get m path) cause)

-- what is asked of the files would not pass, and a cause of that is told
pub record IsUnpassed (fully : Bool) (asked : Asked) (files : Option Files) (what : Trouble) : Type 0 where
  pub fails : Given files (λ m. ComesTo fully asked false m)
  pub why : IsUnpassedBy asked.path files what

-- what is said of what is asked: why it would not pass, or what is to be said of a pass
abbrev pub IsSaidFor : List ℕ → Option ℕ → Bool → Asked → Option Files → Trouble → Type 0
IsSaidFor workspace earlier fully asked files what = IsUnpassed fully asked files what ⊎ IsNoted workspace earlier fully asked files what

-- an assertion is made in a file
abbrev pub IsOfFile : RequestView → Type 0
IsOfFile (asserts a) = names_file a.file ≡ true
IsOfFile begins = Unit {0}
IsOfFile ends = Unit {0}

-- the assertion of the document with this number goes on under the name of its course, and what is asked of the files then is this: that
-- is seen from now on
pub record GoesOn (words : RunWords) (number : ℕ) (a : AssertionView) (known known' : Known) (asks : Asked → Type 0) : Type 0 where
  pub course : Course
  pub course_is : course_of (assertion_by words a) known.session ≡ Ok course
  pub remembered : known'.session ≡ course.session
  pub seen : known'.seen ≡ with_asker number (asked_by words a course.name).path known.seen
  pub is : asks (asked_by words a course.name)

-- what is remembered refuses the assertion, with this kind, and it asks for no path
pub record IsRefusedFor (words : RunWords) (a : AssertionView) (known known' : Known) (kind : RefusalKind) : Type 0 where
  pub refused : Refused
  pub course_is : course_of (assertion_by words a) known.session ≡ Err refused
  pub kind_is : kind_of refused.error ≡ Some kind
  pub remembered : known'.session ≡ refused.session
  pub seen : known'.seen ≡ known.seen

-- what is asked of the files would pass, after these documents, and nothing is to be said of it
abbrev pub PassesAfter : RunWords → Known → Option Files → Asked → Type 0
PassesAfter words known files asked = Passes words.workspace (asked_before asked.path known.seen) words.full asked files

-- what is said of it after these documents
abbrev pub IsSaidAfter : RunWords → Known → Option Files → Trouble → Asked → Type 0
IsSaidAfter words known files what asked = IsSaidFor words.workspace (asked_before asked.path known.seen) words.full asked files what

-- a request, of the document with this number, would pass and nothing is to be said of it, or it begins or ends a block
pub data IsClear (words : RunWords) (files : Option Files) (number : ℕ) (known known' : Known) : RequestView → Type 0 where
  passes : (r : RequestView) (a : AssertionView) → r ≡ asserts a → GoesOn words number a known known' (PassesAfter words known files) → IsClear words files number known known' r
  begin : (r : RequestView) → r ≡ begins → known' ≡ known_within known → IsClear words files number known known' r
  end : (r : RequestView) → r ≡ ends → is_open known.session ≡ true → known' ≡ known_behind known → IsClear words files number known known' r

-- why a request would not pass, or would end a run; or what is to be said of one that would pass
pub data HasTrouble (words : RunWords) (files : Option Files) (number : ℕ) (known known' : Known) : RequestView → Trouble → Type 0 where
  stray : (r : RequestView) (what : Trouble) → r ≡ ends → what ≡ trouble.StrayEnd → is_open known.session ≡ false → known' ≡ known → HasTrouble words files number known known' r what
  refused : (r : RequestView) (a : AssertionView) (what : Trouble) (kind : RefusalKind) (detail : List ℕ) → r ≡ asserts a → what ≡ trouble.Refused kind detail → IsRefusedFor words a known known' kind
      → HasTrouble words files number known known' r what
  said_of : (r : RequestView) (a : AssertionView) (what : Trouble) → r ≡ asserts a → GoesOn words number a known known' (IsSaidAfter words known files what) → HasTrouble words files number known known' r what

-- why what is remembered refuses an assertion that comes to no answer: a fault and want of memory end the work, and the errors of literals
-- and of payloads don't come of a tree
abbrev pub unforeseen : AssertError → Result RefusalKind TellError
unforeseen (refusal.FileIo path) = Err tell.FileFault
unforeseen refusal.NameClash = Ok NameClash
unforeseen refusal.DoctestNeedsName = Ok DoctestNeedsName
unforeseen (refusal.DuplicateDiffers key kept new) = Ok DuplicateDiffers
unforeseen refusal.NamesExhausted = Ok NamesExhausted
unforeseen _ = Err tell.OutOfMemory

-- what is told of such a refusal: its kind, and what stands against the request
abbrev pub RefusesFor : Result RefusalKind TellError → Option Trouble → Type 0
RefusesFor (Ok kind) found = (detail : List ℕ) × (found ≡ Some (trouble.Refused kind detail))
RefusesFor (Err error) found = ⊥

-- an error that tells that the sink failed
abbrev pub is_tell_write : TellError → Bool
is_tell_write tell.WriteFault = true
is_tell_write _ = false

-- an error that tells that the store failed
abbrev pub is_tell_file : TellError → Bool
is_tell_file tell.FileFault = true
is_tell_file _ = false
