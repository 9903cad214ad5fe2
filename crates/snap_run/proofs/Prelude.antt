-- The words that the proofs of this crate speak in: those of the library, of the crates below, and of its own definitions.
pub use Rattle.std.proofs.Common.{◌≡◌, ℕ, List, [], ◌∷◌, ◌++◌, Option, inl, inr, subst, arith, ◌⊎◌, ◌&&◌, not, map, Some, refl, sym, ap, ◌∙◌, Result, Ok, Err, encode_utf8_all, ◌≤◌, ◌<◌, ◌+◌, ◌^◌, length, take, OnOk, OnErr, Bool, true, false, None, ◌||◌, drop, append_assoc, length-append, codes}
pub use Rattle.std.proofs.lemmas.List.{append-nil, take_all}
pub use Rattle.std.proofs.lemmas.Str.{encodes-chars}
pub use Rattle.std.specs.FinMap.{get}
pub use Rattle.std.specs.Prelude.{if◌then◌else◌}
pub use Rattle.snap_assert.proofs.Keeping.{step_keeps, gone_after}
pub use Rattle.snap_assert.specs.Kept.{KeptBy, FaultIsOwn, IsKeptOrGone, is_written, may_change}
pub use Rattle.snap_assert.specs.Session.{SessionView, empty_session, is_open, opened, closed}
pub use Rattle.snap_assert.specs.Steps.{verdict_of, failed_verdict, is_failure, step}
pub use Rattle.snap_assert.specs.declared.outcome.Outcome.{Outcome}
pub use Rattle.snap_io.specs.Causes.{Rose, Counted, CountedIf, is_fault}
pub use Rattle.snap_io.specs.Files.{Files}
pub use Rattle.snap_io.specs.Outside.{Outside, outside}
pub use Rattle.snap_io.specs.Streams.{HoldsFront}
pub use Rattle.snap_run_requests.specs.Cut.{documents}
pub use Rattle.snap_run_requests.specs.Requests.{AssertionView, RequestView, asserts, begins, ends, Spells, ReadsAs, Reads}
pub use Rattle.snap_assert_settings.specs.declared.config.Update.{Update}
pub use Rattle.snap_run.specs.Answers.{RunWords, place_by, settings_by, printed_by, assertion_by, asked_by, line_text, line_by, course_line, course_files, MayPass, words_mean, Answer, requests_of, is_taken, AreTaken, remembered_by, remembered_after, step_by, files_after, some_fails, passes, passed_count, passes_in, no_tally, added, demo_run, AreAllowed, lines_of, answer_fails}
pub use Rattle.snap_run.specs.Meaning.{meaning, meaning_by, a_text, a_run, a_demonstration, nothing}
pub use Rattle.snap_run.specs.Program.{message, IsSaid, IsRunOf}
pub use Rattle.snap_run.specs.Refused.{status_at}
pub use Rattle.snap_run.specs.Runner.{words_of}
pub use Rattle.snap_run.specs.Runs.{StopsAt, Ran, AssertionStops, IsInWork, FileFails, MemoryFails, HaltsAt, config_by, IsRefusedWith, LineFails, IsMade, IsSeenFrom, is_store_fault, Stopped, RanOne, name_in, path_in}
pub use Rattle.snap_run.specs.Status.{RunsTo, AreSpelled, IsSteady, EndsWell, Ended, EndedBy, ended_status, WordsCause, RunsFrom, LengthCause, says_read_fault, says_write_fault, says_file_fault}
pub use Rattle.snap_run.specs.declared.document_error.DocumentError.{DocumentError}
pub use Rattle.snap_run.specs.declared.runner.Runner.{Runner}
pub use Rattle.snap_run.specs.declared.status.Status.{Status}
pub use Rattle.snap_run.specs.declared.tally.Tally.{Tally}
pub use Rattle.snap_run.specs.declared.status.Status.TheVariants.{AllPassed, SomeFailed, BadWords, BadRequest, Refused, ReadFault, OutOfMemory, InputTooLong}
