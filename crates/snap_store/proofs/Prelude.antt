-- The words that the proofs of this crate speak in: those of the library, of the crates below, and of its own definitions.
pub use Rattle.std.proofs.Common.{refl, sym, inl, inr, ◌≡◌, ℕ, List, true, cond, ap, [], ◌∷◌, ◌++◌, Option, None, Some, ◌∙◌, rules, pos, ◌==◌, Bool, false, map, drop, Bor, true-eqb, ◌&&◌, ◌+◌, ◌<◌, ◌≤◌, not, length, take, get_or, add-one, ◌^◌, Result, Ok, Err, subst, IsErrAnd, append_assoc, append-nil, ◌||◌, ℤ, negsuc, nat_lt, OnOk, OnErr, arith}
pub use Rattle.std.proofs.lemmas.Bool.{and_parts, lt-ltb}
pub use Rattle.std.specs.FinMap.{get, insert}
pub use Rattle.std.specs.List.{list_any, flat_map, concat}
pub use Rattle.std.specs.Option.{option_or}
pub use Rattle.std.specs.Prelude.{codes, MatchOption, option_map, if◌then◌else◌, IfSome, option_and_then, encode_utf8_all}
pub use Rattle.std.specs.Str.{chars, bytes_eq, IsUtf8}
pub use denote.Shadow.{shadow}
pub use denote.Text.{Utf8}
pub use Rattle.snap_content.proofs.Booleans.{or_left, or_right}
pub use Rattle.snap_content.proofs.Views.{tree-Map}
pub use Rattle.snap_content.specs.Lines.{ended}
pub use Rattle.snap_content.specs.Plain.{plain, text, int, dict, Entries, entry, no_entries, pair_entries, Plain, content_of, null, bool, list, no_items, item}
pub use Rattle.snap_print.specs.Readable.{IsWithin}
pub use Rattle.snap_content.specs.View.{tree, pair_list, pair_trees, Pairs}
pub use Rattle.snap_content.specs.declared.content.Content.{Content, String, U32, Map, the_lemmas}
pub use Rattle.snap_content.specs.declared.error.Error.{Error}
pub use Rattle.snap_fields.specs.Fields.{is_text, is_key, is_nil, last_by, tree_text, tree_line, last_in, last_filled_in, text_at, line_at}
pub use Rattle.snap_io.specs.Files.{Files, SameBut}
pub use Rattle.snap_print.specs.Blocks.{Blocks}
pub use Rattle.snap_print.specs.Lines.{document_of, text_of, lines_of}
pub use Rattle.snap_str.specs.Lines.{ended_lines, onto}
pub use Rattle.snap_text.specs.Lines.{is_line_end, IsUnbroken}
pub use Rattle.snap_store.specs.Fields.{binary_kind, kind_told, fields_told, kind_in, fields}
pub use Rattle.snap_store.specs.FileSplit.{is_headed, headed_body, legacy_body, body_of, line_of, before_blank, behind_name, legacy_lines, legacy_field, is_end, joined_lines, lines_text, up_to_fence, past_fence, header_text, first_is_fence, file_text, FallsInto, past_blank}
pub use Rattle.snap_store.specs.Header.{in_front, FieldsEnd, HasFields}
pub use Rattle.snap_store.specs.Image.{file_of, saved_text, pending_path}
pub use Rattle.snap_store.specs.Meta.{Meta, text_field, line_field, info_field, kind_fields, header_tree, without_line, empty_meta, legacy_meta}
pub use Rattle.snap_store.specs.MetaTree.{text_pair, line_pair, info_pair, kind_pairs, meta_tree, meta_pairs, filled_info, without_nil_info, TellsFields}
pub use Rattle.snap_store.specs.Views.{meta_of, meta_in, contents_in, legacy_in, number_text_in}
pub use Rattle.snap_store.specs.declared.contents.SnapshotContents.{SnapshotContents}
pub use Rattle.snap_store.specs.declared.metadata.SnapshotKind.{SnapshotKind}
pub use Rattle.snap_store.specs.declared.metadata.SnapshotKind.TheVariants.{Text, Binary}
pub use Rattle.std.proofs.lemmas.Str.{chars-nil}
pub use Rattle.snap_path.proofs.Parts.{next-here, next-last, component-size, apart-both, apart-common}
pub use Rattle.snap_path.specs.Paths.{components, slashed, is_absolute, path_of_parts, joined, relative_from, Apart, apart, from_apart, same_start}
pub use Rattle.snap_store.specs.Relative.{below, left_below, path_within, source_within}
pub use Rattle.std.proofs.lemmas.Result.{IfOk-weaker}
