-- The words that the proofs of this crate speak in: those of the library, of the crates below, and of its own definitions.
pub use Rattle.std.proofs.Common.{◌≡◌, ℕ, ◌<◌, ◌^◌, List, [], ◌∷◌, Bool, true, false, Option, Some, None, Result, Ok, Err, length, nat_lt, if◌then◌else◌, refl, sym, ap, ◌∙◌, arith, rules, subst, option_map, ◌++◌, cond, ◌||◌, append_assoc, map, ℤ, not, unwrap_or}
pub use Rattle.std.proofs.lemmas.Bool.{or_from}
pub use Rattle.std.proofs.lemmas.Result.{IfOk-weaker}
pub use Rattle.std.specs.List.{list_all, list_any}
pub use Rattle.std.specs.Prelude.{IsTrue, ◌&&◌, is_some, codes, IfOk, IfErr, IfSome, IsOkAnd, IsSomeAnd, option_and_then}
pub use Rattle.std.specs.Str.{chars, IsUtf8}
pub use Rattle.std.specs.Vec.Iter.{into_iter_items, into_iter_len}
pub use denote.Shadow.{shadow}
pub use denote.Text.{Utf8}
pub use Rattle.snap_content.proofs.Booleans.{or_left, or_right, or_nothing}
pub use Rattle.snap_content.specs.Plain.{Plain, plain, content_of}
pub use Rattle.snap_print.specs.Readable.{IsWithin, IsNumber, AreWithin, AreEntriesWithin}
pub use Rattle.snap_content.specs.View.{tree, pair_tree, item_trees, pair_list, pair_trees, Pairs}
pub use Rattle.snap_content.specs.declared.content.Content.{Content, Map}
pub use Rattle.snap_parse.proofs.PrintedValues.{document-read}
pub use Rattle.snap_parse.specs.PrintedValues.{read_value, read_values, read_pairs}
pub use Rattle.snap_print.proofs.Rows.{printed-rows, printed-end}
pub use Rattle.snap_print.proofs.Typing.{typed_word}
pub use Rattle.snap_print.specs.Blocks.{Blocks, blocks_if, off}
pub use Rattle.snap_print.specs.Lines.{text_of, document_of, lines_of}
pub use Rattle.snap_print.specs.Printed.{AreRows, EndsWell, is_trimmed}
pub use Rattle.snap_yaml.specs.View.{value_of, array_list, array_values, hash_list, hash_values, Hash}
pub use Rattle.snap_emit.specs.Pieces.{ends_piece, pieces, IsPieceThen, is_number_piece, has_number_piece}
pub use Rattle.snap_emit.specs.PlainRead.{plain_read, IsPlain, has_number_text, plains_read, entries_read, have_number_texts, are_number_texts_in, is_number_first, is_number_first_of, is_number_first_in, is_whole}
