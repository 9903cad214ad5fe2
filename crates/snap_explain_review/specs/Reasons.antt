-- Why a review is refused, in words.
use Rattle.std.specs.Prelude.{ℕ, List, [], ◌∷◌, ◌++◌, codes}
use Rattle.std.specs.Fmt.{decimal}
use Rattle.snap_content.specs.declared.error.Error.{Error}
use Rattle.snap_content.specs.declared.error.Error.TheVariants as e
use Rattle.snap_print.specs.Spell.{spell_text}
use Rattle.snap_review.specs.declared.status.ReviewStatus.{ReviewStatus}
use Rattle.snap_review.specs.declared.status.ReviewStatus.TheVariants.{Done, BadWords, NoPending, Unreadable, FileIo, NoSource, WriteFault, OutOfMemory, NotStable, NoLiteral, Stale, SameLiteral}
use Rattle.snap_review.specs.declared.words.Request.{Request}
use Rattle.snap_review.specs.declared.words.Target.{Target}
use Rattle.snap_review.specs.declared.words.Target.TheVariants.{Literals, File}

-- that nothing waits
abbrev pub absent_text : Target → List ℕ
absent_text Literals = codes "no records wait there"
absent_text File = codes "no snapshot waits there"

-- why records are not read; a file of records is refused for no other reason than the first four
abbrev pub records_fault : Error → List ℕ
records_fault (e.NotText path) = codes "the file is not UTF-8"
records_fault (e.FailedParsingYaml path) = codes "a line is no JSON"
records_fault e.UnexpectedDataType = codes "a record is no map, or a value in it is of another type"
records_fault e.MissingField = codes "a record lacks a field"
records_fault (e.FileIo path) = codes "the file cannot be read"
records_fault (e.FloatText path) = codes "the file cannot be read"
records_fault e.JsonKey = codes "the file cannot be read"
records_fault (e.NoFile path) = codes "the file cannot be read"
records_fault e.OutOfMemory = codes "the file cannot be read"

-- why a snapshot is not read; a snapshot is refused for no other reason than the first four
abbrev pub snapshot_fault : Error → List ℕ
snapshot_fault (e.NotText path) = codes "the snapshot is not UTF-8"
snapshot_fault (e.FailedParsingYaml path) = codes "the header of the snapshot is no YAML"
snapshot_fault e.UnexpectedDataType = codes "the header of the snapshot is no map"
snapshot_fault e.MissingField = codes "the header of the snapshot says binary, without an extension"
snapshot_fault (e.FileIo path) = codes "the snapshot cannot be read"
snapshot_fault (e.FloatText path) = codes "the snapshot cannot be read"
snapshot_fault e.JsonKey = codes "the snapshot cannot be read"
snapshot_fault (e.NoFile path) = codes "the snapshot cannot be read"
snapshot_fault e.OutOfMemory = codes "the snapshot cannot be read"

-- why what waits is not read
abbrev pub unread_text : Target → Error → List ℕ
unread_text Literals error = records_fault error
unread_text File error = snapshot_fault error

-- a line on the file at a path: the path, as a scalar is spelled, and what is said of it
abbrev pub at_path : List ℕ → List ℕ → List ℕ
at_path path what = spell_text path ++ (codes ": " ++ (what ++ 10 ∷ []))

-- the same of a line of that file, by its number
abbrev pub at_line : List ℕ → ℕ → List ℕ → List ℕ
at_line path number what = spell_text path ++ (codes ", line " ++ (decimal number ++ (codes ": " ++ (what ++ 10 ∷ []))))

-- why the review of a request is refused that would end so, in a line: what waits, or the source, gives the reason. There is none where
-- it is not refused.
abbrev pub reason_text : Request → ReviewStatus → List ℕ
reason_text request NoPending = at_path request.waiting (absent_text request.target)
reason_text request (Unreadable error) = at_path request.waiting (unread_text request.target error)
reason_text request NoSource = at_path request.path (codes "the source is missing, or is no text")
reason_text request (NotStable line) = at_line request.path line (codes "the new text is not its own normal form")
reason_text request (NoLiteral line) = at_line request.path line (codes "no literal stands behind an @ from there on")
reason_text request (Stale line) = at_line request.path line (codes "the literal is not the one that the record saw")
reason_text request (SameLiteral line) = at_line request.path line (codes "an earlier record asks for the same literal")
reason_text request Done = []
reason_text request BadWords = []
reason_text request (FileIo path) = []
reason_text request WriteFault = []
reason_text request OutOfMemory = []
