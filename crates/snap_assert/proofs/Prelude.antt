-- The words that the proofs of this crate speak in: those of the library, of the crates below, and of its own definitions.
pub use Rattle.std.proofs.Common.{◌≡◌, ◌⊎◌, ◌&&◌, Bool, not, Option, Some, Ok, refl, sym, ap, ℕ, false, cond, ◌||◌, List, [], ◌∷◌, ◌++◌, None, ◌∙◌, eq-eqb, codes, subst, append_assoc, ◌↔◌, inl, inr, IsTrue, true, ◌<◌, ◌+◌, length, take, drop, get_or, Result, Err, ◌≢◌, ◌≤◌, ◌==◌, map, arith, length-append, IsPermutation}
pub use Rattle.std.proofs.lemmas.Bool.{false_from_ne_true, or_right}
pub use Rattle.std.proofs.lemmas.List.{take_more, take-append-drop, take_all}
pub use Rattle.std.proofs.lemmas.Result.{IfOk-weaker, on_ok_weaker}
pub use Rattle.std.proofs.lemmas.Slice.Eq.{bytes_eq-Decides}
pub use Rattle.std.specs.FinMap.{get, insert, remove, get-insert, get-remove, get-retain_keys, same_map, slice_cmp-IsAntisymmetric, nat_cmp-IsAntisymmetric}
pub use Rattle.std.specs.List.{list_any, filter, All}
pub use Rattle.std.specs.Prelude.{IfOk, is_some, encode_utf8_all, IsSome}
pub use Rattle.std.specs.Str.{bytes_eq, chars, IsUtf8}
pub use Rattle.snap_content.proofs.Booleans.{some_same, or_left, not_true}
pub use Rattle.snap_content.specs.Plain.{Plain, dict, Entries, entry, no_entries}
pub use Rattle.snap_print.specs.Readable.{IsWithin}
pub use Rattle.snap_content.specs.declared.error.Error.{Error}
pub use Rattle.snap_content.specs.declared.error.Error.TheVariants.{FailedParsingYaml, UnexpectedDataType, MissingField, FileIo, FloatText, JsonKey, NotText, NoFile, OutOfMemory}
pub use Rattle.snap_io.specs.Files.{Files, SameBut, MayBeGone}
pub use Rattle.snap_path.specs.Names.{past_mark}
pub use Rattle.snap_path.specs.Paths.{joined, parent_of, front_of, name_of, last_of, components, is_absolute, path_of_parts, IsName}
pub use Rattle.snap_assert_place.specs.Place.{holds_slash, place_of}
pub use Rattle.snap_print.specs.Blocks.{Blocks, off, blocks_if}
pub use Rattle.snap_print.specs.Lines.{text_of, document_of}
pub use Rattle.snap_print.specs.Printed.{is_trimmed}
pub use Rattle.snap_assert_settings.specs.Settings.{settings_of}
pub use Rattle.snap_assert_settings.specs.declared.config.Update.{Update}
pub use Rattle.snap_assert_settings.specs.declared.config.Update.TheVariants.{InPlace, NewFile, NoUpdate}
pub use Rattle.snap_store.specs.Agreement.{Agree}
pub use Rattle.snap_store.specs.FileSplit.{FallsInto, is_headed, body_of, header_of}
pub use Rattle.snap_store.specs.Image.{file_of, text_under, saved_text}
pub use Rattle.snap_store.specs.Meta.{Meta, header_tree, without_line}
pub use Rattle.snap_store.specs.Reading.{IsTextFile, HasHeader, HoldsBody, IsReadAs, IsRefused, Tells, IsReadFrom, ReadsHeader, IsNoText}
pub use Rattle.snap_store.specs.Views.{meta_in, contents_in, legacy_in, text_in, IsFileText, number_text_in}
pub use Rattle.snap_store.specs.declared.contents.SnapshotContents.{SnapshotContents}
pub use Rattle.snap_store.specs.declared.contents.SnapshotContents.TheVariants.{Text, Binary}
pub use Rattle.snap_store.specs.declared.metadata.SnapshotKind.{SnapshotKind}
pub use Rattle.snap_store.specs.declared.snapshot.Snapshot.{Snapshot}
pub use Rattle.snap_text.specs.Contents.{normal_of, legacy_of, raw_of, kind_of, compared_as, legacy_as, compared_of}
pub use Rattle.snap_text.specs.Legacy.{legacy, without_breaks, without_fence}
pub use Rattle.snap_text.specs.Normal.{normal, unreturned}
pub use Rattle.snap_text.specs.declared.contents.TextSnapshotKind.{TextSnapshotKind}
pub use Rattle.snap_text.specs.declared.contents.TextSnapshotKind.TheVariants.{File}
pub use Rattle.snap_assert.specs.Assertions.{Assertion, asked_under, key_under, new_contents, assertion_of}
pub use Rattle.snap_assert_settings.specs.declared.config.Config.{Config}
pub use Rattle.snap_assert.specs.Judging.{BodyAgrees, BodyMatches, HasTextHeader, HasBinaryHeader, IsLegacyFile, IsUnread, HeaderGives, LinesGive, MatchesAll, May, MayFully, Allowed, IsSavedFor}
pub use Rattle.snap_assert.specs.Kept.{is_written, may_change, Keeps, IsKeptOrGone, is_none, is_waiting, NamesOnly, KeptBy, IsTakenAlone, IsOwn, FaultIsOwn, FaultIsAt, NamesOwn}
pub use Rattle.snap_assert.specs.Listed.{Covers, CoversAt, IsCovered, IsCoveredAt, IsKnown, MayWait, WaitsStill}
pub use Rattle.snap_assert.specs.Outcomes.{IsAnswered, IsDone, AreWarnings, PassWarns, IsHeadedFile, IsNotUnderstood, SpeakOfOne, said_if, said}
pub use Rattle.snap_assert.specs.Prepared.{IsPrepared, IsSettled, IsJudged, OlderTexts, OlderPair, OlderAs, NoPass, RefusedEnd, IsCompared}
pub use Rattle.snap_assert.specs.Removed.{remove_each, is_among, FaultIsAmong}
pub use Rattle.snap_assert.specs.Session.{empty_session, SessionView}
pub use Rattle.snap_assert.specs.Steps.{Asked, verdict_of, is_failure, is_slashless, is_stray, pending_path, cleared, written, passed_files, step, stray_front, asked_as}
pub use Rattle.snap_assert.specs.Strays.{AllStray, AreStrays}
pub use Rattle.snap_assert.specs.declared.error.AssertError.{AssertError}
pub use Rattle.snap_assert.specs.declared.judge.Judged.{Judged}
pub use Rattle.snap_assert.specs.declared.prepare.Prepared.{Prepared}
