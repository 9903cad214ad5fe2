-- The words that the proofs of this crate speak in.
pub use Rattle.std.proofs.Common.{◌≡◌, ◌==◌, ℕ, zero, suc, ◌+◌, ◌*◌, ◌-◌, ◌<◌, ◌≤◌, List, [], ◌∷◌, ◌++◌, Bool, true, false, ◌||◌, ◌&&◌, cond, nat_lt, Option, Some, None, length, refl, sym, ap, ◌∙◌, arith, append_assoc, append-nil, length-append, subst, inl, inr, eq-eqb, true-eqb, rules, MatchOption, drop, take, get_or, drop-cons, add-one, ◌⊎◌, ◌≢◌}
pub use Rattle.std.proofs.lemmas.Bool.{or_from, ne_eqb, eqb-true}
pub use Rattle.std.proofs.lemmas.Bool.Decides.{nat_tests}
pub use Rattle.std.proofs.lemmas.Str.{encodes-chars, encodes-append}
pub use Rattle.std.specs.Char.{digit_value}
pub use Rattle.std.specs.List.{list_any}
pub use Rattle.std.specs.Option.{is_some, option_and_then}
pub use Rattle.std.specs.Str.{chars, IsUtf8}
pub use denote.Shadow.{shadow}
pub use denote.Text.{Utf8}
pub use lib.Utf8.{scalar, encodes}
pub use Rattle.snap_content.proofs.Booleans.{or_left, or_right, some_same}
pub use Rattle.snap_content.specs.Front.{begins}
pub use Rattle.snap_text_literals.specs.Hashes.{past_hashes, past_end, has_end, hashes}
pub use Rattle.snap_text_literals.specs.Lines.{is_return}
pub use Rattle.snap_text_literals.specs.Literal.{Inside, literal_reads, IsQuoted, IsRaw, IsBody}
pub use Rattle.snap_text_literals.specs.Literal.Inside.{ends, goes_on}
pub use Rattle.snap_text_literals.specs.Units.{unit_of, unit_given, hexadecimal, lettered, braced, unicode, escape, Unit_read, past_blanks}
pub use Rattle.snap_text_literals.specs.Fronts.{IsBehind, BeginsWithNone, HasLiteral}
pub use Rattle.snap_str.specs.Cut.{Lacks, IsCutAtFirst}
pub use Rattle.snap_text_literals.specs.Inline.{lead, inline_normal}
pub use Rattle.snap_text_literals.specs.OfLiteral.{of_literal}
pub use Rattle.snap_text_literals.specs.Spelled.{spelled, is_indent, IsIndentation}
pub use Rattle.snap_review.specs.Places.{past_line, past_lines, from_line, IsMarked, HasNoneMarked}
pub use Rattle.snap_review.specs.Patched.{IsStable, Stands, NoneFrom, HasNone, StandsFor, IsFresh, IsStale, IsTaken, Puts, IsPatched, Stops, IsRefused, RefusedFrom, PatchEnd, ReadsBack, FreshEnd}
pub use Rattle.snap_review.specs.declared.patching.NewLiteral.{NewLiteral}
pub use Rattle.snap_review.specs.declared.patching.Refusal.{Refusal}
pub use Rattle.snap_review.specs.declared.patching.Refusal.TheVariants.{NotStable, NoLiteral, Stale, SameLiteral, OutOfMemory}
pub use Rattle.std.proofs.Common.{map, ◌^◌, Result, Ok, Err, option_to_list, Bor}
pub use Rattle.std.specs.BTreeMap.{insert_entry}
pub use Rattle.std.specs.FinMap.{get}
pub use Rattle.std.specs.List.{flat_map}
pub use Rattle.std.specs.Ordering.{match_ordering, nat_cmp}
pub use Rattle.std.specs.declared.cmp.Ordering.{Ordering}
pub use Rattle.std.specs.declared.cmp.Ordering.TheVariants.{Less, Equal, Greater}
pub use Rattle.std.specs.Map.{values_of}
pub use Rattle.snap_content.specs.declared.error.Error.{Error}
pub use Rattle.snap_io.specs.Causes.{Counted, CountedIf}
pub use Rattle.snap_io.specs.Changes.{Change, writes, removes, path_in, changed, all_changed, MayLeave}
pub use Rattle.snap_io.specs.Files.{Files, MayBeGone}
pub use Rattle.snap_io.specs.Outside.{Becomes}
pub use Rattle.snap_io.specs.StandsAfter.{StandsAfter, IsInWork, NamesNext}
pub use Rattle.snap_pending.specs.Pending.{Pending, pending_of}
pub use Rattle.snap_pending.specs.Loaded.{LoadRefused, LoadEnd, IsBatch}
pub use Rattle.snap_pending.specs.declared.pending.PendingInlineSnapshot.{PendingInlineSnapshot}
pub use Rattle.snap_store.specs.Causes.{CallEnd, IsCallError}
pub use Rattle.snap_store.specs.Reading.{IsTextFile, IsNoText}
pub use Rattle.snap_review.specs.Carried.{StopsIn}
pub use Rattle.snap_review.specs.Chosen.{latest_after, seen, seen_entry, asked_by, asked, wanted, chosen}
pub use Rattle.snap_review.specs.Describe.{status_of, refused_as}
pub use Rattle.snap_review.specs.Ends.{IsSaid, WorkEnd, IsStopped, IsCarriedOut, RunEnd, worked, unplanned, says_file_fault, says_write_fault}
pub use Rattle.snap_review.specs.Planned.{Found, AreFound, Asks, IsMadeOf, IsAcceptance, IsRejection, IsPlannedBy, IsPlanned, IsUnread, HasNoSource, IsUnpatched, HasNoPlan, MadeEnd, IsAccepted, IsUnaccepted, AcceptEnd, IsPlanWith, RejectEnd, PlanEnd, IsPlanBy, written, changes_of, answer_line, answer_lines}
pub use Rattle.snap_review.specs.Read.{IsFoundAt, IsUnasked, IsNoSource, SourceEnd, SourcePlanEnd}
pub use Rattle.std.proofs.lemmas.Str.{chars-nil}
pub use Rattle.std.specs.Prelude.{unwrap_or, option_map, encode_utf8_all}
pub use Rattle.snap_io.specs.Streams.{HoldsFront}
pub use Rattle.snap_store.specs.Views.{snapshot_of}
pub use Rattle.snap_review.specs.Chosen.{raw_in, raw_text}
pub use Rattle.std.specs.Result.{OnErr, OnOk, IfErr, IfOk}
pub use Rattle.std.specs.Prelude.{codes}
pub use Rattle.snap_content.proofs.Ascii.{chars-ascii}
pub use Rattle.snap_review.specs.Ends.{ReviewOf}
