-- The words that the proofs of this crate speak in: those of the library, of the crates below, and of its own definitions.
pub use Rattle.std.proofs.Common.{◌≡◌, ℕ, List, [], ◌∷◌, ◌++◌, Bool, true, false, refl, ◌∙◌, arith, sym, ap, append-nil, append_assoc, Some, None, Option, map, subst, inl, ◌+◌, nat_lt, length, ◌<◌, ◌-◌, ◌*◌, zero-add, ◌≤◌, inr, suc, min, length-append, zero, ◌/◌, ◌%◌, not, ℤ, pos, negsuc, add-zero, ◌⊎◌}
pub use Rattle.std.proofs.lemmas.Bool.{or_parts, and_right, and_parts, and_left}
pub use Rattle.std.proofs.lemmas.Bool.Decides.{nat_tests}
pub use Rattle.std.proofs.lemmas.List.{map-append}
pub use Rattle.std.specs.Fmt.{digit_glyph, digits_onto, signed_decimal, decimal}
pub use Rattle.std.specs.List.{flat_map, insert, list_all, list_any}
pub use Rattle.std.specs.Prelude.{◌||◌, ◌&&◌, ◌==◌, slice_index, if◌then◌else◌, nat_le, is_some}
pub use Rattle.snap_content.proofs.Booleans.{not_true, and_nothing}
pub use Rattle.snap_print.specs.Spell.{escaped, escaped_code, spell_bool, spell_text, spelling, is_flat}
pub use Rattle.snap_scan.specs.Fetching.{closed, kind_step, innermost, value_of_key, Outcome, done, refused, stream_started}
pub use Rattle.snap_scan.specs.Keys.{fresh, is_overdue, any_overdue}
pub use Rattle.snap_scan.specs.Kinds.{kind_of, kind_of_sign}
pub use Rattle.snap_scan.specs.Owed.{fetched, none_more, one_more, type_of, Owes, left_by, Steps}
pub use Rattle.snap_scan.specs.State.{State, start_state, kept, ends, is_right_of, at, pushed, unrolled, is_deeper, in_flow, saved, to_next, is_space, stale}
pub use Rattle.snap_scan.specs.declared.keys.SimpleKey.{SimpleKey}
pub use Rattle.snap_scan.specs.declared.kind.TokenKind.{TokenKind}
pub use Rattle.snap_scan_tokens.specs.Characters.{is_blank_or_end, is_digit, is_document_start, is_document_end, is_blank, is_break, is_document_indicator}
pub use Rattle.snap_scan_tokens.specs.Folding.{no_gap}
pub use Rattle.snap_scan_tokens.specs.Mark.{Mark}
pub use Rattle.snap_scan_tokens.specs.Place.{Place, before_nul, mark_of, skipped}
pub use Rattle.snap_scan_tokens.specs.Plain.{Plain, plain, plain_from, is_outside, ends_plain}
pub use Rattle.snap_scan_tokens.specs.Quoted.{double, hexadecimal, is_code, Quoted, double_from, digits}
pub use Rattle.snap_scan_tokens.specs.declared.folding.Fold.TheVariants.{Inline, Broken}
pub use Rattle.snap_scan_tokens.specs.declared.folding.Gap.{Gap}
pub use Rattle.snap_scan_tokens.specs.declared.token.Token.{Token}
pub use Rattle.snap_scan_tokens.specs.declared.token.TokenType.{TokenType}
pub use Rattle.snap_print.specs.Blocks.{Blocks, before_more, is_inside, core, kept_ends, as_block, block_sign, empty_lines}
pub use Rattle.snap_print.specs.Lines.{before_items, before_entries}
pub use Rattle.snap_parse_laws.specs.FormLines.{document_of, key_block, lines_of, item_lines, entry_block, entry_lines, text_of}
pub use Rattle.snap_parse_laws.specs.Forms.{line_ends, shifted, block_at, is_block, is_block_tail, block, IsNode, is_sign, is_word_start, is_word_character, is_behind, is_start, Brackets, square, curly, open_sign, close_sign, Form, IsPrintable, text_at, tokens_of, document_at, blanks, open_token, close_token, Forms, Entry, Entries, Scalar, bare, quote, scalar, hollow, list, dict, last, item, simple, complex, only, pair, ArePrintable, IsEntry, AreEntries, inside, entry_at, entries_at, value_block, spelled, scalar_token, inside_tokens, entry_tokens, entries_tokens, is_scalar, is_key, is_tail, is_bare}
pub use Rattle.snap_parse_laws.specs.PlainForms.{child_of, form_of, text_scalar, entry_of, scalar_of, forms_of, entries_of}
pub use Rattle.snap_parse_laws.specs.Stands.{here, calm, Settles, closing, arrived, settled}
pub use Rattle.snap_parse_laws.specs.Tokens.{document_with, document_tokens, node_tokens, item_tokens}
