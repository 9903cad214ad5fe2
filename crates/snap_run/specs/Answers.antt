-- The answers of a run: its requests in turn, what they leave and the lines that tell of them.
use Rattle.std.specs.Prelude.{◌≡◌, ◌+◌, ◌&&◌, ◌||◌, Result, Ok, Err, is_ok, ℕ, Bool, true, false, not, List, [], ◌∷◌, ◌++◌, codes, encode_utf8_all, Option, None, Some, option_and_then, if◌then◌else◌}
use Rattle.std.specs.List.{list_any}
use Rattle.std.specs.Str.{bytes_eq}
use Rattle.std.specs.FinMap.{get}
use Rattle.snap_print.specs.Spell.{spell_text}
use Rattle.snap_content.specs.Tree.{Tree}
use Rattle.snap_io.specs.Files.{Files}
use Rattle.snap_print.specs.Blocks.{blocks_if}
use Rattle.snap_assert_settings.specs.Replaced.{redacted_by}
use Rattle.snap_assert_settings.specs.Settings.{SettingsView, new_settings, sorted_where}
use Rattle.snap_assert_place.specs.Place.{PlaceView}
use Rattle.snap_assert.specs.Judging.{Allowed}
use Rattle.snap_assert.specs.Steps.{Asked, step, verdict_of, is_failure}
use Rattle.snap_run_requests.specs.Requests.{AssertionView, RequestView, asserts, begins, ends}
use Rattle.snap_store.specs.Meta.{shown_text}
use Rattle.snap_assert.specs.Assertions.{Assertion, assertion_of, asked_under}
use Rattle.snap_assert.specs.Courses.{Course, Refused, course_of, session_after}
use Rattle.snap_assert.specs.Session.{SessionView, opened, closed, is_open}
use Rattle.snap_run.specs.declared.usage.TheConstants.{USAGE, VERSION}
use Rattle.snap_assert_settings.specs.declared.config.Flags.{Flags}
use Rattle.snap_assert_settings.specs.declared.config.Update.{Update}
use Rattle.snap_assert_settings.specs.declared.config.Update.TheVariants.{InPlace, NewFile, NoUpdate}
use Rattle.snap_assert.specs.declared.outcome.Verdict.{Verdict}
use Rattle.snap_assert.specs.declared.outcome.Verdict.TheVariants.{Passed, Updated, Pending, Rejected}
use Rattle.snap_run.specs.declared.tally.Tally.{Tally}

-- what the words of a run say
pub record RunWords : Type 0 where
  pub workspace : List ℕ
  pub update : Update
  pub force_update : Bool
  pub force_pass : Bool
  pub full : Bool
  pub literal : Bool

-- the modes
abbrev pub mode_of : List ℕ → Option Update
mode_of word =
    if bytes_eq word (codes "inplace") then Some InPlace
    else if bytes_eq word (codes "new") then Some NewFile
    else if bytes_eq word (codes "no") then Some NoUpdate
    else None

abbrev pub no_flags : Flags
no_flags = record { force_update = false; force_pass = false; full = false; literal = false }

abbrev pub is_force : List ℕ → Bool
is_force word = bytes_eq word (codes "--force")

abbrev pub is_force_pass : List ℕ → Bool
is_force_pass word = bytes_eq word (codes "--force-pass")

abbrev pub is_full : List ℕ → Bool
is_full word = bytes_eq word (codes "--full")

abbrev pub is_literal : List ℕ → Bool
is_literal word = bytes_eq word (codes "--literal")

-- a flag more, where it is one that is not set yet
abbrev pub with_flag : List ℕ → Flags → Option Flags
with_flag word flags =
    if is_force word && not flags.force_update then Some (record flags { force_update = true })
    else if is_force_pass word && not flags.force_pass then Some (record flags { force_pass = true })
    else if is_full word && not flags.full then Some (record flags { full = true })
    else if is_literal word && not flags.literal then Some (record flags { literal = true })
    else None

-- the flags and those of the words, each in turn
abbrev pub with_flags : Flags → List (List ℕ) → Option Flags
with_flags flags [] = Some flags
with_flags flags (word ∷ words) = option_and_then (λ more. with_flags more words) (with_flag word flags)

-- each flag stands at most once, in any order; law `flags_are_what_stands` says which are set
abbrev pub flags_mean : List (List ℕ) → Option Flags
flags_mean words = with_flags no_flags words

-- the word stands among others
abbrev pub stands : List ℕ → List (List ℕ) → Bool
stands word words = list_any (λ other. bytes_eq other word) words

-- each is a flag, and none stands twice
abbrev pub are_flags : List (List ℕ) → Bool
are_flags [] = true
are_flags (word ∷ words) = (is_force word || (is_force_pass word || (is_full word || is_literal word))) && (not (stands word words) && are_flags words)

-- the flags that stand among the words
abbrev pub flags_told : List (List ℕ) → Flags
flags_told words = record {
  force_update = stands (codes "--force") words;
  force_pass = stands (codes "--force-pass") words;
  full = stands (codes "--full") words;
  literal = stands (codes "--literal") words;
}

-- the words of a run in a workspace, in a mode, with these flags
abbrev pub words_at : List ℕ → Update → Flags → RunWords
words_at workspace update flags = record {
  workspace = workspace;
  update = update;
  force_update = flags.force_update;
  force_pass = flags.force_pass;
  full = flags.full;
  literal = flags.literal;
}

-- the words of a demonstration's two runs: in place in the workspace `demo`, without flags
abbrev pub demo_run : RunWords
demo_run = words_at (codes "demo") InPlace no_flags

abbrev pub said_of : List ℕ → Option Update → Option Flags → Option RunWords
said_of workspace (Some mode) (Some flags) = Some (words_at workspace mode flags)
said_of workspace (Some mode) None = None
said_of workspace None flags = None

-- the words that are built: `run`, a mode, a workspace and flags
abbrev pub words_mean : List (List ℕ) → Option RunWords
words_mean (command ∷ mode ∷ workspace ∷ flags) = if bytes_eq command (codes "run") then said_of workspace (mode_of mode) (flags_mean flags) else None
words_mean _ = None

-- the text that a word asks for, where it stands alone
abbrev pub text_asked : List (List ℕ) → Option (List ℕ)
text_asked (word ∷ []) = if bytes_eq word (codes "--help") then Some USAGE.now else if bytes_eq word (codes "--version") then Some VERSION.now else None
text_asked _ = None

-- a request is made in the workspace
abbrev pub place_at : List ℕ → List ℕ → List ℕ → List ℕ → ℕ → List ℕ → PlaceView
place_at workspace function module_name file line expr = record {
  workspace = workspace;
  function = function;
  module_name = module_name;
  file = file;
  line = line;
  expr = expr;
}

abbrev pub place_by : List ℕ → AssertionView → PlaceView
place_by workspace a = place_at workspace a.function a.module_name a.file a.line a.expr

-- and with new settings but for its suffix, its sorting and its redactions
abbrev pub settings_by : AssertionView → SettingsView
settings_by a = record new_settings { sort_maps = a.sort; suffix = shown_text (Some a.suffix) }

-- the tree that is printed: its maps sorted where that is asked, and then each redaction in turn
abbrev pub printed_by : AssertionView → Tree
printed_by a = redacted_by a.redactions (sorted_where a.sort a.value)

-- what the assertion of a request is
abbrev pub assertion_by : RunWords → AssertionView → Assertion
assertion_by words a = assertion_of (blocks_if words.literal) (settings_by a) (place_by words.workspace a) a.name (printed_by a)

-- what is asked of the files under the name that the assertion takes
abbrev pub asked_by : RunWords → AssertionView → List ℕ → Asked
asked_by words a name = asked_under (assertion_by words a) name

-- what is remembered after a request, whatever the files are
abbrev pub remembered_by : RunWords → RequestView → SessionView → SessionView
remembered_by words (asserts a) session = session_after (course_of (assertion_by words a) session)
remembered_by words begins session = opened session
remembered_by words ends session = closed session

-- whether a request goes on, whatever the files are: an assertion is refused by what is remembered alone, and a block ends where one
-- is open
abbrev pub is_taken : RunWords → RequestView → SessionView → Bool
is_taken words (asserts a) session = is_ok (course_of (assertion_by words a) session)
is_taken words begins session = true
is_taken words ends session = is_open session

abbrev pub AreTaken : RunWords → List RequestView → SessionView → Type 0
AreTaken words [] session = Unit {0}
AreTaken words (r ∷ more) session = (is_taken words r session ≡ true) × AreTaken words more (remembered_by words r session)

abbrev pub remembered_after : RunWords → List RequestView → SessionView → SessionView
remembered_after words [] session = session
remembered_after words (r ∷ more) session = remembered_after words more (remembered_by words r session)

-- a request, and whether it passed, which says nothing of one that opens or closes a block
pub record Answer : Type 0 where
  pub request : RequestView
  pub passed : Bool

abbrev pub requests_of : List Answer → List RequestView
requests_of [] = []
requests_of (a ∷ more) = a.request ∷ requests_of more

-- the files after an assertion that goes on
abbrev pub course_files : RunWords → AssertionView → Bool → Result Course Refused → Files → Files
course_files words a passed (Ok course) files = step words.update words.force_update (asked_by words a course.name) passed files
course_files words a passed (Err refused) files = files

-- the files after one answer
abbrev pub step_by : RunWords → RequestView → Bool → SessionView → Files → Files
step_by words (asserts a) passed session files = course_files words a passed (course_of (assertion_by words a) session) files
step_by words begins passed session files = files
step_by words ends passed session files = files

-- whether an assertion may pass is decided by the file that stands at its path at that moment, fully where the words ask for that
abbrev pub MayPass : RunWords → AssertionView → Bool → Result Course Refused → Files → Type 0
MayPass words a passed (Ok course) files = Allowed words.full (asked_by words a course.name) passed (get files (asked_by words a course.name).path)
MayPass words a passed (Err refused) files = Unit {0}

abbrev pub IsAllowed : RunWords → RequestView → Bool → SessionView → Files → Type 0
IsAllowed words (asserts a) passed session files = MayPass words a passed (course_of (assertion_by words a) session) files
IsAllowed words begins passed session files = Unit {0}
IsAllowed words ends passed session files = Unit {0}

abbrev pub AreAllowed : RunWords → List Answer → SessionView → Files → Type 0
AreAllowed words [] session files = Unit {0}
AreAllowed words (a ∷ more) session files =
    IsAllowed words a.request a.passed session files × AreAllowed words more (remembered_by words a.request session) (step_by words a.request a.passed session files)

abbrev pub files_after : RunWords → List Answer → SessionView → Files → Files
files_after words [] session files = files
files_after words (a ∷ more) session files = files_after words more (remembered_by words a.request session) (step_by words a.request a.passed session files)

abbrev pub word_of : Verdict → List ℕ
word_of Passed = codes "passed "
word_of Updated = codes "updated "
word_of Pending = codes "pending "
word_of Rejected = codes "rejected "

-- the line that tells of an answer: the verdict, and the path as a scalar is spelled
abbrev pub line_text : Verdict → List ℕ → List ℕ
line_text verdict path = word_of verdict ++ (spell_text path ++ 10 ∷ [])

abbrev pub course_line : RunWords → AssertionView → Bool → Result Course Refused → List ℕ
course_line words a passed (Ok course) = encode_utf8_all (line_text (verdict_of words.update passed) (asked_by words a course.name).path)
course_line words a passed (Err refused) = []

-- the line of an assertion; the begin and the end of a block have none
abbrev pub line_by : RunWords → RequestView → Bool → SessionView → List ℕ
line_by words (asserts a) passed session = course_line words a passed (course_of (assertion_by words a) session)
line_by words begins passed session = []
line_by words ends passed session = []

abbrev pub lines_of : RunWords → List Answer → SessionView → List ℕ
lines_of words [] session = []
lines_of words (a ∷ more) session = line_by words a.request a.passed session ++ lines_of words more (remembered_by words a.request session)

-- whether an answer fails; the begin and the end of a block never do
abbrev pub answer_fails : RunWords → RequestView → Bool → Bool
answer_fails words (asserts a) passed = is_failure (verdict_of words.update passed) && not words.force_pass
answer_fails words begins passed = false
answer_fails words ends passed = false

-- one of the answers fails
abbrev pub some_fails : RunWords → List Answer → Bool
some_fails words [] = false
some_fails words (a ∷ more) = answer_fails words a.request a.passed || some_fails words more

-- how many assertions a request and its answer are that passed: one or none
abbrev pub passes : RequestView → Bool → ℕ
passes (asserts a) passed = if passed then 1 else 0
passes begins passed = 0
passes ends passed = 0

-- how many assertions passed
abbrev pub passed_count : List Answer → ℕ
passed_count [] = 0
passed_count (a ∷ more) = passes a.request a.passed + passed_count more

-- the same by a verdict
abbrev pub passes_in : Verdict → ℕ
passes_in Passed = 1
passes_in _ = 0

-- what is counted of no answers
abbrev pub no_tally : Tally
no_tally = record { fails = false; passed = 0 }

-- what is counted of these answers and of those after them
abbrev pub added : Tally → Tally → Tally
added tally later = record { fails = tally.fails || later.fails; passed = tally.passed + later.passed }
