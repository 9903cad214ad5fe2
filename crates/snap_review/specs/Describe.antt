-- What a status says in words, and its number.
use Rattle.std.specs.Prelude.{ℕ, List, ◌++◌, codes}
use Rattle.std.specs.Fmt.{decimal}
use Rattle.snap_content.specs.declared.error.Error as error
use Rattle.snap_content.specs.declared.error.Error.TheVariants as e
use Rattle.snap_review.specs.declared.patching.Refusal as refusal
use Rattle.snap_review.specs.declared.patching.Refusal.TheVariants as r
use Rattle.snap_review.specs.declared.status.ReviewStatus.{ReviewStatus}
use Rattle.snap_review.specs.declared.status.ReviewStatus.TheVariants.{Done, BadWords, NoPending, Unreadable, FileIo, NoSource, WriteFault, OutOfMemory, NotStable, NoLiteral, Stale, SameLiteral}

-- what is said of a file
abbrev pub file_text : List ℕ → List ℕ
file_text path = codes "snap-review: file error at " ++ path

-- what is said of a line
abbrev pub line_text : ℕ → List ℕ → List ℕ
line_text line what = codes "snap-review: line " ++ (decimal line ++ what)

-- what a status says in words
abbrev pub description : ReviewStatus → List ℕ
description Done = codes "snap-review: done"
description BadWords = codes "snap-review: bad words"
description NoPending = codes "snap-review: nothing waits there"
description (Unreadable error) = codes "snap-review: what waits cannot be read"
description (FileIo path) = file_text path
description NoSource = codes "snap-review: the source is missing, or is no text"
description WriteFault = codes "snap-review: write fault"
description OutOfMemory = codes "snap-review: out of memory"
description (NotStable line) = line_text line (codes ": the new text is not its own normal form")
description (NoLiteral line) = line_text line (codes ": no literal stands behind an @ from there on")
description (Stale line) = line_text line (codes ": the literal is not the one that the record saw")
description (SameLiteral line) = line_text line (codes ": an earlier record asks for the same literal")

-- the exit status
abbrev pub code_of : ReviewStatus → ℕ
code_of Done = 0
code_of BadWords = 2
code_of NoPending = 3
code_of (Unreadable error) = 4
code_of (FileIo path) = 5
code_of NoSource = 6
code_of WriteFault = 7
code_of OutOfMemory = 8
code_of (NotStable line) = 9
code_of (NoLiteral line) = 10
code_of (Stale line) = 11
code_of (SameLiteral line) = 12

-- as what an error of a file ends a run
abbrev pub status_of : error.Error → ReviewStatus
status_of (e.FileIo path) = FileIo path
status_of (e.NoFile path) = NoPending
status_of e.OutOfMemory = OutOfMemory
status_of (e.FailedParsingYaml path) = Unreadable (e.FailedParsingYaml path)
status_of e.UnexpectedDataType = Unreadable e.UnexpectedDataType
status_of e.MissingField = Unreadable e.MissingField
status_of (e.FloatText path) = Unreadable (e.FloatText path)
status_of e.JsonKey = Unreadable e.JsonKey
status_of (e.NotText path) = Unreadable (e.NotText path)

-- as what a refused source ends a run
abbrev pub refused_as : refusal.Refusal → ReviewStatus
refused_as (r.NotStable line) = NotStable line
refused_as (r.NoLiteral line) = NoLiteral line
refused_as (r.Stale line) = Stale line
refused_as (r.SameLiteral line) = SameLiteral line
refused_as r.OutOfMemory = OutOfMemory
