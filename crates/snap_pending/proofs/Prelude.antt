-- The words that the proofs of this crate speak in: those of the library, of the crates below, and of its own definitions.
pub use Rattle.std.proofs.Common.{◌≡◌, ℕ, Bool, false, List, Option, Some, Result, Ok, Err, refl, ap, sym, ◌∙◌, subst, OnOk, OnErr, IsErrOf, ◌≢◌, ◌+◌, ◌<◌, ◌≤◌, true, cond, [], ◌∷◌, ◌++◌, length, take, get_or, None, inl, inr, suc, ◌-◌, map, ◌⊎◌, nat_lt, ◌==◌, ◌||◌, append_assoc, arith, zero, ◌/◌, ◌%◌, ℤ, pos, negsuc, IsErrAnd, ◌^◌, not, ◌&&◌, rules}
pub use Rattle.std.proofs.lemmas.Bool.{or_parts, lt-ltb, eqb-true, eqb-false}
pub use Rattle.std.proofs.lemmas.List.{append-nil, take_more, take_all, map-append}
pub use Rattle.std.proofs.lemmas.Str.{encodes-chars, encodes-append, chars_from_encodes}
pub use Rattle.std.specs.List.{flat_map, filter, slice_get, All, list_any}
pub use Rattle.std.specs.Prelude.{encode_utf8_all, unwrap_or, if◌then◌else◌, IfSome, codes, option_and_then, option_map, is_some}
pub use Rattle.std.specs.Str.{IsUtf8, chars, bytes_eq}
pub use Rattle.snap_content.proofs.DictMade.{dict_of}
pub use Rattle.snap_content.specs.Plain.{Plain, null, bool, int, text, list, dict, no_items, item, no_entries, entry, content_of, plain, Entries}
pub use Rattle.snap_content.specs.Tree.{Tree, string, i64, u32, u64, u128, TreePairs, no_pairs, pair}
pub use Rattle.snap_content.specs.View.{tree, pair_trees}
pub use Rattle.snap_content.specs.declared.error.Error.{Error}
pub use Rattle.snap_content.specs.declared.error.Error.TheVariants.{FailedParsingYaml, UnexpectedDataType, MissingField, FileIo, FloatText, JsonKey, NotText, NoFile, OutOfMemory}
pub use Rattle.snap_json.specs.JsonPlain.{json_plain, json_pairs}
pub use Rattle.snap_json.specs.JsonText.{json_text, text_at}
pub use Rattle.snap_json.specs.declared.format.Format.TheVariants.{Condensed}
pub use Rattle.snap_fields.specs.Fields.{is_text}
pub use Rattle.snap_fields.specs.Made.{last_value, last_filled, text_value, line_value}
pub use Rattle.snap_io.specs.Files.{Files, SameBut, appended, MayBeGone}
pub use Rattle.snap_parse_laws_json.specs.Bounded.{IsJsonOf}
pub use Rattle.snap_store.proofs.Headers.{tree-pairs, tree-U32, in_front-none}
pub use Rattle.snap_store.proofs.Written.{same_but, nothing_written}
pub use Rattle.snap_store.specs.Fields.{binary_kind, kind_told, fields_told, kind_in, fields}
pub use Rattle.snap_store.specs.Meta.{Meta}
pub use Rattle.snap_store.specs.MetaTree.{text_pair, line_pair, info_pair, kind_pairs, meta_pairs, meta_tree, without_nil_info, TellsFields}
pub use Rattle.snap_store.specs.Causes.{CallEnd, IsCallError}
pub use Rattle.snap_store.specs.Reading.{IsTextFile}
pub use Rattle.snap_store.specs.Views.{meta_of, text_in, SnapshotView, snapshot_of}
pub use Rattle.snap_store.specs.declared.contents.SnapshotContents.{SnapshotContents}
pub use Rattle.snap_store.specs.declared.metadata.SnapshotKind.{SnapshotKind}
pub use Rattle.snap_str.proofs.LineTexts.{lines-line, some_bytes, no_bytes}
pub use Rattle.snap_str.specs.Lines.{lines, without_return}
pub use Rattle.snap_text.specs.Normal.{normal}
pub use Rattle.snap_pending.specs.Back.{IsBack, AreBack, IsReadable, HasTexts, in_json, meta_back, IsHeldBack, MayBeBack, HasShortLine, HasShortLines, HasText}
pub use Rattle.snap_pending.specs.Batches.{last_run, is_of_run, batch_of, items_in, records_of}
pub use Rattle.snap_pending.specs.Loaded.{Tell, Refuse, IsBatch, HasRefusedLine, LoadRefused, LoadEnd}
pub use Rattle.snap_pending.specs.Pending.{pending_of, Pending}
pub use Rattle.snap_pending.specs.Record.{record_of, record_line, held_tree, tree_or_none, is_refused}
pub use Rattle.snap_pending.specs.Saved.{SavingEnd, SavingRefused, PrintRefused, with_lines}
pub use Rattle.snap_pending.specs.Told.{TellsRecord, RecordRefused, LineTells, LineRefused, LineEnd, RecordEnd, MayBeJsonOf, IsNoJson, parsing_refusal, TellsMeta, HoldsText, HeldRefused, HeldEnd, IsOtherHeld, LacksInHeld, MayTell, IsOtherRecord, LacksInRecord, TellsHeld, IsNoMap, IsNoText, no_map, no_metadata, no_text, lacks_module, lacks_metadata, lacks_extension, lacks_text, is_no_map, other_new, other_old, lacks_run, lacks_line, lacks_in_new, lacks_in_old}
pub use Rattle.snap_pending.specs.declared.pending.PendingInlineSnapshot.{PendingInlineSnapshot}
