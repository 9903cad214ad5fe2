-- The words that the proofs of this crate speak in: those of the library, of the crates below, and of its own definitions.
pub use Rattle.std.proofs.Common.{◌≡◌, ◌==◌, ℕ, suc, ◌<◌, List, [], ◌∷◌, Bool, true, false, ◌||◌, length, get_or, refl, sym, ap, ◌∙◌, arith, true-eqb, ◌+◌, ◌*◌, ◌/◌, ◌%◌, ◌≤◌, ◌++◌, ◌&&◌, cond, nat_lt, nat_le, Some, None, append_assoc, lit<, zero, ◌-◌, Option, drop, take, length-append, subst, Bor, MatchOption, IfSome, inl, inr, max, append-nil, add-one, eq-eqb, map, Result, Ok, Err, not, ◌^◌, ◌⊎◌, ◌≢◌, rules, option_to_list}
pub use Rattle.std.proofs.lemmas.Bool.{or_from, eqb-true, or_parts, ltb-false, ne_eqb, lt-ltb, cond_both, cond-false, both_ways}
pub use Rattle.std.proofs.Math.Bool.{and-true, or-true}
pub use Rattle.std.proofs.lemmas.List.{map-append}
pub use Rattle.std.proofs.lemmas.List.Folds.{list_any-append, list_all-append}
pub use Rattle.std.proofs.lemmas.Grind.{flat_map-append}
pub use Rattle.std.proofs.lemmas.Bool.Decides.{nat_tests}
pub use Rattle.std.proofs.lemmas.Str.{encodes-chars, encodes-append, encodes-IsAscii, digit_value-digit_char, chars-nil, chars-append, scalars-chars, length-encode, IsCharBoundary-at_seam, IsUtf8-take, IsUtf8-drop, length-le-encodes, chars_from_encodes}
pub use Rattle.std.specs.Char.{digit_value, digit_char, is_whitespace, len_utf8, is_ascii}
pub use Rattle.std.specs.List.{list_any, flat_map, list_all}
pub use Rattle.std.specs.Option.{is_some}
pub use Rattle.std.specs.Result.{IfOk, OnOk, MatchResult, is_err}
pub use Rattle.std.specs.Str.{chars, encode_utf8_all, IsUtf8, IsCharBoundary, skip_leading_whitespace, drop_trailing_whitespace}
unfoldable pub use Rattle.std.specs.Str.{trim_end}
pub use denote.Shadow.{shadow}
pub use denote.Text.{Utf8}
pub use lib.Utf8.{scalar, low_scalar, encode, encodes, scalars}
pub use Rattle.snap_content.proofs.Ascii.{IsAscii-list_all}
pub use Rattle.snap_content.proofs.Booleans.{or_left, or_right, some_same, both_second, both_first, and_nothing}
pub use Rattle.snap_content.specs.Front.{begins}
pub use Rattle.snap_content.specs.Quotes.{ends_badly}
pub use Rattle.snap_str.proofs.LineTexts.{lines-unbroken, lines-line}
pub use Rattle.snap_str.specs.Cut.{Lacks, IsLastPart}
pub use Rattle.snap_str.specs.Lines.{onto, lines, without_return, begins_line_end}
pub use Rattle.snap_text_literals.specs.Frame.{sign, space_front, last_line, is_framed, framed_text, onto_front, at_byte, given, breaks_frame}
pub use Rattle.snap_text_literals.specs.Hashes.{past_hashes, past_end, has_end, run, required, hashes}
pub use Rattle.snap_text_literals.specs.Inline.{shortest, indentation_of, from_byte, joined_from, is_short, normalized, inline_normal, lead, behind_end, inline_width, written_lines, written}
pub use Rattle.snap_text_literals.specs.Lines.{is_line_end, IsUnbroken, IsLineThen, before_return, without_returns, is_return}
pub use Rattle.snap_text_literals.specs.Literal.{Inside, literal_reads, IsQuoted, IsRaw, IsBody}
pub use Rattle.snap_text_literals.specs.Literal.Inside.{ends, goes_on}
pub use Rattle.snap_text_literals.specs.Normal.{trimmed, unreturned, normal, before_trimmed}
pub use Rattle.snap_text_literals.specs.Spelled.{escaped_char, is_control, digits, line_parts, framed_line, shown, is_indent, is_hidden, spelled, meant, IsIndentation, is_marked, escaped_form, raw_form, plain_form}
pub use Rattle.snap_text_literals.specs.Units.{unit_of, unit_given, hexadecimal, lettered, braced, unicode, escape, Unit_read, past_blanks}
pub use Rattle.snap_text_literals.specs.Fronts.{IsBehind, BeginsWithNone, HasLiteral}
