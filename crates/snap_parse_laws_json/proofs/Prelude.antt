-- The words that the proofs of this crate speak in: those of the library, of the crates below, and of its own definitions.
pub use Rattle.std.proofs.Common.{◌≡◌, ℕ, ◌+◌, List, [], ◌∷◌, ◌++◌, false, refl, arith, Some, nat_lt, length, Bool, true, sym, ◌∙◌, ap, subst, append_assoc, suc, ◌-◌, ◌≤◌, None, Option, map, zero, take, append-nil, not, ◌<◌, max, ℤ, pos, negsuc, add-zero}
pub use Rattle.std.proofs.lemmas.Bool.{or_parts, and_right, and_left, and_parts}
pub use Rattle.std.proofs.lemmas.Bool.Decides.{nat_tests}
pub use Rattle.std.proofs.lemmas.List.{length-append, length-take-le, length-map, map-append}
pub use Rattle.std.specs.Fmt.{signed_decimal, decimal}
unfoldable pub use Rattle.std.specs.Fmt.{digits}
pub use Rattle.std.specs.List.{flat_map, list_any, list_all}
pub use Rattle.std.specs.Prelude.{◌==◌, ◌||◌, ◌&&◌, slice_index, if◌then◌else◌, slice_index_or, nat_le, codes}
pub use Rattle.snap_content.proofs.Booleans.{and_nothing, not_true}
pub use Rattle.snap_content.specs.Plain.{Plain, null, bool, int, text, list, dict, Plains, no_items, item, Entries, no_entries, entry}
pub use Rattle.snap_print.specs.Spell.{spell_bool}
pub use Rattle.snap_json.specs.JsonText.{is_refused, has_refused, items_refused, entries_refused, text_at, items_at, entries_at, member_text}
pub use Rattle.snap_json.specs.Strings.{json_escaped, json_string}
pub use Rattle.snap_json.specs.declared.format.Format.TheVariants.{Condensed}
pub use Rattle.snap_parse_laws.proofs.Beginnings.{quote-kind, open_kind, close_kind, opened-kind, closed-kind, Starts, starts}
pub use Rattle.snap_parse_laws.proofs.Forms.{begins-hollow, steps-append}
pub use Rattle.snap_parse_laws.proofs.Keys.{key_at, insert-at}
pub use Rattle.snap_parse_laws.proofs.Nuls.{has_no_nul, no-nul-append, no-nul-more, no-nul-code, no-nul-scalar, pick, without-nul}
pub use Rattle.snap_parse_laws.proofs.Printables.{bare-int, AreDigits, decimal-digits}
pub use Rattle.snap_parse_laws.proofs.Quotes.{Passes, passes-letter, passes-same, passes-code, passes-other-by, quoted-by, closed_by, pick-small}
pub use Rattle.snap_parse_laws.proofs.Skips.{stops_at, to_next-stops}
pub use Rattle.snap_parse_laws.specs.Forms.{bare, Brackets, square, curly, open_sign, close_sign, open_token, close_token, is_bare, is_start, is_tail}
pub use Rattle.snap_parse_laws.specs.Stands.{here}
pub use Rattle.snap_scan.specs.Fetching.{kind_step, plain_read, quoted_read, sign, value_behind, value_of_key, Outcome, stream_end}
pub use Rattle.snap_scan.specs.Keys.{Keys, is_required, fresh, still_fresh, has_levels, shallower, deeper, is_past, is_overdue, any_overdue, no_keys}
pub use Rattle.snap_scan.specs.Kinds.{kind_of}
pub use Rattle.snap_scan.specs.Owed.{left_by, fetched, none_more, one_more, type_of, Owes, Steps}
pub use Rattle.snap_scan.specs.State.{State, at, pushed, keyless, saved, unrolled, stale, in_flow, start_state, allowing}
pub use Rattle.snap_scan.specs.declared.keys.SimpleKey.{SimpleKey}
pub use Rattle.snap_scan.specs.declared.kind.TokenKind.{TokenKind}
pub use Rattle.snap_scan_tokens.specs.Characters.{is_flow_sign, is_blank_or_end, is_alpha, is_blank, is_break, is_digit}
pub use Rattle.snap_scan_tokens.specs.Place.{Place, mark_of, before_nul, forced}
pub use Rattle.snap_scan_tokens.specs.Plain.{plain_from, plain, ends_plain}
pub use Rattle.snap_scan_tokens.specs.Quoted.{Quoted, double_from}
pub use Rattle.snap_scan_tokens.specs.declared.token.TEncoding.TheVariants.{Utf8}
pub use Rattle.snap_scan_tokens.specs.declared.token.Token.{Token}
pub use Rattle.snap_scan_tokens.specs.declared.token.TokenType.{TokenType}
pub use Rattle.snap_parse_laws_json.specs.Bounded.{levels, has_long, is_bounded, item_levels, entry_levels, is_long, items_long, entries_long}
pub use Rattle.snap_parse_laws_json.specs.Tokens.{json_tokens, item_tokens, entry_tokens, key_tokens, json_stream_tokens, quoted_token, plain_token}
