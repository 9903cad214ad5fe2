-- What the words of a command line ask for.
use Rattle.std.specs.Prelude.{◌≡◌, ◌≢◌, ℕ, List, [], ◌∷◌, Option, None, Some, Result, Ok, Err, codes, unwrap_or, if◌then◌else◌}
use Rattle.std.specs.Str.{bytes_eq}
use Rattle.snap_assert_place.specs.SnapshotPath.{records_name}
use Rattle.snap_path.specs.Paths.{joined, parent_of, name_of}
use Rattle.snap_store.specs.Image.{pending_path}
use Rattle.snap_review.specs.declared.words.Command.{Command}
use Rattle.snap_review.specs.declared.words.Command.TheVariants.{Accept, Reject}
use Rattle.snap_review.specs.declared.words.Request.{Request}
use Rattle.snap_review.specs.declared.words.Target.{Target}
use Rattle.snap_review.specs.declared.words.Target.TheVariants.{Literals, File}

-- what is to be done, and with what, by the first word
abbrev pub asked_by : List ℕ → Option (Command × Target)
asked_by verb =
    if bytes_eq verb (codes "accept") then Some (Accept, Literals)
    else if bytes_eq verb (codes "reject") then Some (Reject, Literals)
    else if bytes_eq verb (codes "accept-file") then Some (Accept, File)
    else if bytes_eq verb (codes "reject-file") then Some (Reject, File)
    else None

-- the path of the file that keeps the records of a source file: beside it, `.f.pending-snap` where its last component is `f`
abbrev pub records_path : List ℕ → List ℕ
records_path path = joined (parent_of path) (records_name (unwrap_or (name_of path) []))

-- where it waits: the records of literals in their file, a new snapshot at its own path with `.new` after it
abbrev pub waiting_path : Target → List ℕ → List ℕ
waiting_path Literals path = records_path path
waiting_path File path = pending_path path

-- the request for the path that a word is, with one slash between each two components
abbrev pub request_at : Command → Target → List ℕ → Request
request_at command target word = record { command = command; target = target; path = joined [] word; waiting = waiting_path target (joined [] word) }

abbrev pub request_named : Command → Target → List ℕ → Option (List ℕ) → Option Request
request_named command target word None = None
request_named command target word (Some name) = Some (request_at command target word)

abbrev pub request_for : Option (Command × Target) → List ℕ → Option Request
request_for None word = None
request_for (Some asked) word = request_named asked.0 asked.1 word (name_of word)

-- the words are the name of a command and a path that has a last component
abbrev pub wanted_by : List (List ℕ) → Option Request
wanted_by (verb ∷ word ∷ []) = request_for (asked_by verb) word
wanted_by other = None

-- what the words ask for was made, or memory was out for a request
abbrev pub WordsEnd : {E : Type 0} → List (List ℕ) → Result (Option Request) E → Type 0
WordsEnd words (Ok found) = found ≡ wanted_by words
WordsEnd words (Err error) = wanted_by words ≢ None
