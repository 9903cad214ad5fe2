-- The words that the proofs of this crate speak in: those of the library, of the crates below, and of its own definitions.
pub use Rattle.std.proofs.Common.{◌≡◌, ℕ, ◌+◌, List, ◌++◌, Bool, true, false, ◌||◌, refl, ap, ◌∙◌, [], sym, subst, append_assoc, zero, suc, ◌-◌, ◌≤◌, ◌∷◌, arith, zero-add, ◌<◌, length, take, drop, get_or, take-append-drop, drop-cons, ◌^◌, ℤ, pos, negsuc, cond, nat_lt, ◌/◌, ◌%◌, ◌==◌, if◌then◌else◌, rules}
pub use Rattle.std.proofs.lemmas.List.{append-nil, get_or_default, take_more, take_all}
pub use Rattle.std.specs.Fmt.{decimal, signed_decimal, digit_glyph}
pub use Rattle.std.proofs.lemmas.Result.{on_ok_weaker}
pub use Rattle.std.specs.List.{All, list_any, flat_map}
pub use Rattle.std.specs.Prelude.{Option, None, Some, Result, Ok, Err, OnOk, OnErr, IsErrOf, codes}
pub use Rattle.std.specs.Result.{IsErrAnd}
pub use Rattle.std.specs.Str.{chars}
pub use denote.Shadow.{shadow}
pub use denote.Text.{Utf8}
pub use Rattle.snap_content.proofs.Booleans.{or_left, or_right, or_nothing}
pub use Rattle.snap_content.specs.Plain.{Plain, null, bool, int, text, list, dict, Plains, no_items, item, Entries, no_entries, entry, number_tree, content_of, trees_made, pairs_made}
pub use Rattle.snap_content.specs.View.{tree, item_list, item_trees, pair_list, pair_trees, field_list, field_trees, Items, Pairs, Fields}
pub use Rattle.snap_print.specs.Begun.{IsBegun}
pub use Rattle.snap_print.specs.Readable.{IsNumber, IsWithin, AreWithin, AreEntriesWithin}
pub use Rattle.snap_print.specs.Spell.{escaped}
pub use Rattle.snap_json.specs.JsonPlain.{json_plain, json_plains, json_pairs, key_plain, json_key, json_fields, text_of_key}
pub use Rattle.snap_json.specs.JsonText.{text_at, items_at, entries_at, member_text, is_refused, has_refused, items_refused, entries_refused, json_text, json_refuses, key_text}
pub use Rattle.snap_json.specs.Layout.{opening, closing, comma, colon, blanks, break_at}
pub use Rattle.snap_json.specs.Strings.{json_escaped, json_string}
pub use Rattle.snap_json.specs.Walked.{all_written, further, collection, value_written, byte_written, pair_written, field_written, bytes_written, item_list_written, pair_list_written, field_list_written, variant_written, item_list_at, pair_list_at, field_list_at, bytes_at}
pub use Rattle.snap_json.specs.Within.{IsKeptWithin, IsPairWithin, IsFieldWithin, IsByteWithin}
pub use Rattle.snap_json.specs.Written.{Written, whole, stopped, is_stopped, behind, key_written, member_written, entry_written, written, items_written, entries_written, characters, IsAdded, IsStopped, Wrote, before_first_refusal}
pub use Rattle.snap_json.specs.declared.error.JsonError.{JsonError}
pub use Rattle.snap_json.specs.declared.error.JsonError.TheVariants.{JsonKey, OutOfMemory}
pub use Rattle.snap_json.specs.declared.format.Format.{Format}
pub use Rattle.snap_json.specs.declared.format.Format.TheVariants.{Condensed, SingleLine, Pretty}
