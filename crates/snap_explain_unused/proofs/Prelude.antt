-- The words that the proofs of this crate speak in: those of the library, of the crates below, and of its own definitions.
pub use Rattle.std.proofs.Common.{◌≡◌, ◌≢◌, ◌⊎◌, ◌≤◌, ◌<◌, ◌+◌, ◌-◌, ◌&&◌, ◌||◌, ℕ, Bool, true, false, not, cond, List, [], ◌∷◌, ◌++◌, Option, None, Some, Result, Ok, Err, codes, length, take, drop, get_or, refl, sym, ap, ◌∙◌, subst, inl, inr, arith, append_assoc, append-nil, length-append}
pub use Rattle.std.proofs.lemmas.List.{take_more, take_all, take-append-drop}
pub use Rattle.std.proofs.lemmas.List.Elements.{All-nil, All-cons, All-head, All-tail, All-append}
pub use Rattle.std.proofs.lemmas.List.Folds.{list_any-append}
pub use Rattle.std.proofs.lemmas.Result.{err_from_is_err_and}
pub use Rattle.std.proofs.lemmas.Slice.Eq.{bytes_eq-Decides}
pub use Rattle.std.specs.FinMap.{get}
pub use Rattle.std.specs.List.{All, list_any, flat_map}
pub use Rattle.std.specs.Prelude.{is_some, is_ok, encode_utf8_all}
pub use Rattle.std.specs.Str.{bytes_eq, chars}
pub use Rattle.snap_content.proofs.Ascii.{chars-ascii}
pub use Rattle.snap_io.specs.Files.{Files}
pub use Rattle.snap_io.specs.Listed.{AreNames}
pub use Rattle.snap_path.specs.Paths.{joined, parent_of, name_of, last_of, all_but_last, components, is_absolute, path_of_parts, IsName}
pub use Rattle.snap_assert.specs.Removed.{is_among}
pub use Rattle.snap_assert.specs.Session.{SessionView, empty_session, session_of}
pub use Rattle.snap_assert_place.specs.SnapshotPath.{IsFilePath}
pub use Rattle.snap_run_requests.specs.Cut.{documents}
pub use Rattle.snap_run_requests.specs.Requests.{AssertionView, RequestView, asserts, begins, ends, ReadsAs, Reads}
pub use Rattle.snap_run.specs.Answers.{RunWords, assertion_by, asked_by, is_taken, AreTaken, remembered_by, remembered_after}
pub use Rattle.snap_run.specs.Runner.{words_of}
pub use Rattle.snap_explain_unused.specs.Asked.{AreAsked, StopsAsking, IsNone, IsUntaken, asked_paths, course_path, path_by, run_in}
pub use Rattle.snap_explain_unused.specs.Unused.{AreUnused, IsUnused, IsBeside, is_left, base_of, before_end, ends_with}
pub use Rattle.snap_explain_unused.specs.Lines.{line_of, lines_of, is_filled}
pub use Rattle.snap_explain_unused.specs.Stops.{AsksAll, AsksBy, AsksOne, Grows, StopsAll, StopsBy, StopsOne, is_file_fault, is_refused, stop_of}
pub use Rattle.snap_explain_unused.specs.Found.{Adds, FindsIn, HoldsOf, IsFound, IsLeftIn, KeepsOne, LooksBeside, LooksInto, StandsIn}
pub use Rattle.snap_explain_unused.specs.Runs.{AreNamed, Finds, UnusedLeaves, UnusedLength, UnusedRun}
pub use Rattle.snap_explain_unused.specs.Ends.{FindsLines, FindsText, SaysOf, Tells}
pub use Rattle.snap_explain_unused.specs.declared.asking.Stop.{Stop}
pub use Rattle.snap_explain_unused.specs.declared.status.UnusedStatus.{UnusedStatus}
