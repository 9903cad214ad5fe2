-- The words that the proofs of this crate speak in: those of the library, of the crates below, and of its own definitions.
pub use Rattle.std.proofs.Common.{◌≡◌, max, not, ◌≢◌, ◌==◌, ℕ, suc, ℤ, pos, negsuc, ◌+◌, ◌<◌, ◌≤◌, ◌%◌, ◌^◌, List, [], ◌∷◌, ◌++◌, Bool, true, false, ◌||◌, ◌&&◌, cond, nat_lt, nat_le, Option, Some, None, Result, Ok, Err, IfOk, length, take, refl, sym, ap, ◌∙◌, arith, append_assoc, append-nil, length-append, subst, inl, inr, ◌⊎◌, eq-eqb, encode_utf8_all, option_map, option_and_then, codes}
pub use Rattle.std.proofs.lemmas.Bool.{or_from, ne_eqb, and_parts}
pub use Rattle.std.proofs.lemmas.Str.{encodes-chars}
pub use Rattle.std.proofs.lemmas.Result.{err_from_is_err_and}
pub use Rattle.std.specs.List.{list_any}
pub use Rattle.std.specs.Str.{IsUtf8, chars, bytes_eq}
pub use Rattle.snap_content.proofs.Booleans.{or_left, or_right, some_same}
pub use Rattle.snap_content.specs.Plain.{Plain, null, bool, int, text, list, dict, Plains, no_items, item, Entries, no_entries, entry, number_tree, content_of, trees_made, pairs_made}
pub use Rattle.snap_print.specs.Readable.{IsWithin, AreWithin, AreEntriesWithin, IsNumber}
pub use Rattle.snap_content.specs.Tree.{Tree}
pub use Rattle.snap_content.specs.View.{tree}
pub use Rattle.snap_str.specs.Cut.{Lacks, IsCutAtFirst}
pub use Rattle.snap_str.specs.Lines.{lines, onto, without_return, begins_line_end}
pub use Rattle.snap_io.specs.Streams.{GivesFront, HoldsFront}
pub use Rattle.snap_io_lines.specs.Ahead.{line_limit, input_limit, IsAhead, Spends, SpendsOf, IsEndedLine, IsLastLine, TakesLine, IsLong, BudgetEnd}
pub use Rattle.snap_io_lines.specs.declared.lines.LineEnd.{LineEnd}
pub use Rattle.snap_io_lines.specs.declared.lines.LineEnd.TheVariants.{Ended, Last}
pub use Rattle.snap_io_lines.specs.declared.lines.LineError.{LineError}
pub use Rattle.snap_io_lines.specs.declared.lines.LineError.TheVariants.{Fault, LineTooLong, InputTooLong, OutOfMemory}
pub use Rattle.snap_json.specs.JsonPlain.{json_plain, json_plains, json_pairs, json_fields, key_plain, json_key}
pub use Rattle.snap_json.specs.JsonText.{text_at, json_text, json_refuses, has_refused, items_refused, entries_refused, is_refused}
pub use Rattle.snap_json.specs.declared.format.Format.TheVariants.{Condensed}
pub use Rattle.snap_parse_laws_json.specs.Bounded.{IsJsonOf, is_bounded, has_long, levels, item_levels, entry_levels}
pub use Rattle.snap_select.specs.Parts.{Parts}
pub use Rattle.snap_select.specs.Put.{Objects}
pub use Rattle.snap_select.specs.Selected.{selected}
pub use Rattle.snap_select.specs.declared.replacement.Replacement.{Replacement}
pub use Rattle.snap_select.specs.declared.selector.Selector.{Selector}
pub use Rattle.snap_assert_settings.specs.Redactions.{RedactedBy, redactions_of}
pub use Rattle.snap_assert_settings.specs.Replaced.{ReplacementView, replacement_of, replacements_of, redacted_by}
pub use Rattle.snap_assert_settings.specs.declared.redactions.Redactions.{Redactions}
pub use Rattle.snap_mask.specs.Rules.{put_rule, sort_rule, rule_then, rules_in, puts_in, sorts_in, IsFirst, IsMasking, AreMasking, AreRules}
pub use Rattle.snap_mask.specs.Rules.IsMasking.{puts_text, sorts}
pub use Rattle.snap_mask.specs.Beginning.{beginning_at, beginning_in, beginning_of, digit_in_front}
pub use Rattle.snap_mask.specs.declared.beginning.Beginning.TheVariants.{Number}
pub use Rattle.snap_mask.specs.Records.{IsJsonLine, IsNoJsonLine, IsValueOf, IsRecordOf, IsReadAgainAs, RefusesValue, RefusesFor, parse_stop, json_stop}
pub use Rattle.snap_mask.specs.Masked.{Masks, AreShort, IsWritten, IsBegun, IsDone, StopsWithin, StopsAt, IsTooLong, Leaves, LeavesOf, Gave, is_input_too_long, LengthIs, LengthCause, ReadCause}
pub use Rattle.snap_mask.specs.Masked.AreShort.{at_start, at_end}
pub use Rattle.snap_mask.specs.Written.{RecordEnds, IsRefused, RefusesRecord, stop_for}
pub use Rattle.snap_mask.specs.Lined.{line_read, status_of, refusal_of}
