-- The words that the proofs of this crate speak in: those of the library, of the crates below, and of its own definitions.
pub use Rattle.std.proofs.Common.{◌≡◌, ℕ, suc, ◌+◌, ◌<◌, ◌≤◌, List, [], ◌∷◌, ◌++◌, Bool, true, false, cond, ◌||◌, ◌==◌, Option, Some, None, Result, Ok, Err, length, take, drop, refl, sym, ap, ◌∙◌, arith, append_assoc, append-nil, length-append, subst, inl, inr, ◌⊎◌, option_map}
pub use Rattle.std.proofs.lemmas.List.{take_all}
pub use Rattle.std.proofs.lemmas.Result.{err_from_is_err_and}
pub use Rattle.std.specs.Str.{IsUtf8, chars, bytes_eq}
pub use Rattle.snap_content.proofs.Booleans.{some_same}
pub use Rattle.snap_str.specs.Cut.{Lacks}
pub use Rattle.snap_str.specs.Lines.{lines, without_return}
pub use Rattle.snap_io.specs.Streams.{HoldsFront}
pub use Rattle.snap_io_lines.specs.Ahead.{input_limit, IsAhead, SpendsOf, TakesLine, IsLong, BudgetEnd}
pub use Rattle.snap_io_lines.specs.declared.lines.LineEnd.{LineEnd}
pub use Rattle.snap_io_lines.specs.declared.lines.LineEnd.TheVariants.{Ended, Last}
pub use Rattle.snap_io_lines.specs.declared.lines.LineError.{LineError}
pub use Rattle.snap_io_lines.specs.declared.lines.LineError.TheVariants.{Fault, LineTooLong, InputTooLong, OutOfMemory}
pub use Rattle.snap_assert_settings.specs.Replaced.{ReplacementView, replacements_of}
pub use Rattle.snap_mask.specs.Masked.{AreShort, LengthCause as MaskLength, Gave, LengthIs}
pub use Rattle.snap_mask.specs.Masked.AreShort.{at_start as short_start, at_end as short_end}
pub use Rattle.snap_mask.specs.Lined.{line_read, status_of}
pub use Rattle.snap_mask.specs.Rules.{AreRules, rules_in}
pub use Rattle.snap_mask.proofs.Runs.{Took}
pub use Rattle.snap_explain.specs.Words.{finding_text, fault_of}
pub use Rattle.snap_explain.specs.Reasons.{HasRecord, IsFaultOf, IsShown}
pub use Rattle.snap_explain.specs.Findings.{SaysOf, Says, is_filled, Writes, LineEnds, IsSaid, SaidAll, IsLongAfter, SaidLong, SaidWithin, Stops, Leaves, LeavesOf}
pub use Rattle.snap_explain.specs.Findings.SaysOf.{of_nothing, of_record, of_fault}
pub use Rattle.snap_explain.specs.Findings.Says.{at_start, at_line}
pub use Rattle.snap_explain.specs.Runs.{run_at, run_of, SaidBefore, RunLeaves, RunLength}
pub use Rattle.snap_explain.specs.declared.saying.SayError.{SayError}
