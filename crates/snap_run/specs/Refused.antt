-- What a refusal of a request or of an assertion is to the run, and the status that tells of it.
use Rattle.std.specs.Prelude.{ℕ, Option, None, Some}
use Rattle.snap_run_requests.specs.declared.fault.RequestError.{RequestError}
use Rattle.snap_run_requests.specs.declared.fault.RequestError.TheVariants as request
use Rattle.snap_assert.specs.declared.error.AssertError.{AssertError}
use Rattle.snap_assert.specs.declared.error.AssertError.TheVariants as refusal
use Rattle.snap_run.specs.declared.document_error.DocumentError.{DocumentError}
use Rattle.snap_run.specs.declared.document_error.DocumentError.TheVariants.{NoRequest, Refused, FileIo, WriteFault, OutOfMemory}
use Rattle.snap_run.specs.declared.status.RefusalKind.{RefusalKind}
use Rattle.snap_run.specs.declared.status.RefusalKind.TheVariants as kind
use Rattle.snap_run.specs.declared.status.Status.{Status}
use Rattle.snap_run.specs.declared.status.Status.TheVariants as status

abbrev pub unread : RequestError → DocumentError
unread (request.NoRequest why) = NoRequest
unread request.OutOfMemory = OutOfMemory

-- the kind of a refusal by what is remembered
abbrev pub kind_of : AssertError → Option RefusalKind
kind_of refusal.NameClash = Some kind.NameClash
kind_of refusal.DoctestNeedsName = Some kind.DoctestNeedsName
kind_of (refusal.DuplicateDiffers key kept new) = Some kind.DuplicateDiffers
kind_of refusal.NamesExhausted = Some kind.NamesExhausted
kind_of _ = None

-- an assertion of a tree stops a run for these reasons; the other errors are those of literals and of payloads
abbrev pub unanswered : AssertError → DocumentError
unanswered (refusal.FileIo path) = FileIo path
unanswered refusal.NameClash = Refused kind.NameClash
unanswered refusal.DoctestNeedsName = Refused kind.DoctestNeedsName
unanswered (refusal.DuplicateDiffers key kept new) = Refused kind.DuplicateDiffers
unanswered refusal.NamesExhausted = Refused kind.NamesExhausted
unanswered _ = OutOfMemory

-- where the n-th document stops the run
abbrev pub status_at : ℕ → DocumentError → Status
status_at n NoRequest = status.BadRequest n
status_at n (Refused kind) = status.Refused n kind
status_at n (FileIo path) = status.FileIo n path
status_at n WriteFault = status.WriteFault
status_at n OutOfMemory = status.OutOfMemory
