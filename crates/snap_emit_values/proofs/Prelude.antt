-- The words that the proofs of this crate speak in: those of the library, of the crates below, and of its own definitions.
pub use Rattle.std.proofs.Common.{not, ◌≡◌, ◌≢◌, ℕ, ◌+◌, List, [], ◌∷◌, Bool, true, false, ◌==◌, ◌||◌, ◌&&◌, refl, sym, ap, ◌∙◌, arith, if◌then◌else◌, drop, ◌++◌, append_assoc, suc, ◌<◌, ◌≤◌, ◌⊎◌, inl, inr, length, get_or, nat_le, zero, map, take, rules, pos, subst, ◌*◌, ◌^◌, length-append, lit≤, nat_lt, ◌-◌, zero-add, eqb, take-append-drop, drop-cons}
pub use Rattle.std.proofs.lemmas.Bool.{eqb-true, or_from, or_parts, and_parts, cases_lt}
pub use Rattle.std.proofs.lemmas.Bool.Decides.{nat_tests}
pub use Rattle.std.proofs.lemmas.Grind.{flat_map-append}
pub use Rattle.std.proofs.lemmas.List.{append-nil, take_all, take_more, map-append}
pub use Rattle.std.proofs.lemmas.Result.{on_err_weaker, on_ok_weaker}
pub use Rattle.std.proofs.lemmas.Str.{encodes-chars, encode_ascii, inside_one, length-le-encodes, IsCharBoundary-from_ascii, chars_from_encodes}
pub use Rattle.std.specs.Char.{is_ascii_digit, is_ascii}
pub use Rattle.std.specs.List.{list_any, list_all, flat_map, All}
pub use Rattle.std.specs.Prelude.{codes, Option, Some, None, Result, Ok, Err, OnErr, OnOk, IfOk, IsTrue}
pub use Rattle.std.specs.Str.{bytes_eq, chars, IsUtf8}
pub use denote.Shadow.{shadow}
pub use denote.Text.{Utf8}
pub use lib.Utf8.{encodes}
unfoldable pub use lib.Utf8.{encode}
pub use Rattle.snap_content.proofs.Ascii.{IsAscii-list_all, list_all-IsAscii}
pub use Rattle.snap_content.specs.Lines.{ended}
pub use Rattle.snap_content.specs.Plain.{Plain, plain}
pub use Rattle.snap_content.specs.Quotes.{is_special, needs_quotes, ends_badly}
pub use Rattle.snap_print.specs.Begun.{IsBegun}
pub use Rattle.snap_print.specs.Spell.{spell_text, escaped, escaped_code, quoted}
pub use Rattle.snap_content.specs.View.{tree, item_list, item_trees, pair_list, pair_trees, field_list, field_trees, Items, Pairs, Fields}
pub use Rattle.snap_content.specs.declared.content.Content.{Content}
pub use Rattle.snap_print.specs.Blocks.{Blocks, blocks_if, before_more, is_inside, core, kept_ends, block_sign, empty_lines}
pub use Rattle.snap_print.specs.Lines.{text_of, document_of}
pub use Rattle.snap_yaml.specs.View.{array_list, hash_list, Array, Hash, value_of, array_values, hash_values}
pub use Rattle.snap_yaml.specs.declared.yaml.Yaml.{Yaml, the_lemmas}
pub use Rattle.snap_emit_values.specs.Columns.{blanks, break_at, mark_text, line_ends, shifted, block_text, child_text, text_at, items_at, pairs_at, gap}
pub use Rattle.snap_emit_values.specs.Document.{dumped, body, document}
pub use Rattle.snap_emit_values.specs.Emitted.{child_of, text_of_child, item_of, on_lines, list_text, pair_of, dict_text, key_of}
pub use Rattle.snap_emit_values.specs.FromContent.{content_shape, pair_shape, field_shape, byte_shape, IsContentWithin, IsPairWithin, IsShapeWithin}
pub use Rattle.snap_emit_values.specs.Nodes.{item_shapes, entry_shapes, node_shape, node_pair}
pub use Rattle.snap_emit_values.specs.Places.{place}
pub use Rattle.snap_emit_values.specs.Shape.{Shape, plain_shape, shape_of, pair_shapes, is_simple, is_flat, spelled}
