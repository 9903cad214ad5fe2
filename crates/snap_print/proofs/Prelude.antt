-- The words that the proofs of this crate speak in: those of the library, of the crates below, and of its own definitions.
pub use Rattle.std.proofs.Common.{◌≡◌, ℕ, zero, suc, ◌<◌, ◌≤◌, ◌+◌, ◌-◌, ◌^◌, ◌%◌, List, [], ◌∷◌, ◌++◌, true, false, ◌==◌, ◌||◌, refl, ap, ◌∙◌, arith, ◌*◌, ◌/◌, Bool, cond, nat_lt, append_assoc, map, sym, append-nil, not, ◌&&◌, ℤ, pos, negsuc, drop, length, map-id, Some, None, Option, subst, rules}
pub use Rattle.std.proofs.lemmas.Bool.{and_from, or_from, false_from_ne_true, or_parts, and_parts}
pub use Rattle.std.proofs.lemmas.Bool.Decides.{nat_tests}
pub use Rattle.std.proofs.lemmas.Fmt.{decimal_by_steps_wide, decimal_is_IsNumeral_wide}
pub use Rattle.std.specs.Char.{is_ascii_digit, is_ascii, is_whitespace}
pub use Rattle.std.specs.Fmt.{decimal, digit_glyph, signed_decimal}
pub use Rattle.std.proofs.lemmas.Grind.{flat_map-append}
pub use Rattle.std.specs.List.{list_any, list_all, flat_map}
pub use Rattle.std.specs.Prelude.{codes, nat_le, if◌then◌else◌, IsTrue}
pub use Rattle.std.specs.Str.{bytes_eq, chars, IsUtf8}
pub use denote.Shadow.{shadow}
pub use denote.Text.{Utf8}
pub use Rattle.snap_content.proofs.Booleans.{both_second, both_first, or_left, or_right, not_true, and_nothing}
pub use Rattle.snap_content.proofs.Ends.{ends_badly-push, is_reserved-chars}
pub use Rattle.snap_content.specs.Numbers.{is_digits, is_integer_text, is_decimal_text, past_digits, is_number_text, is_float_text, is_octal_text, is_plus_text, is_plus_inf, past_sign, ends_infinity, past_inf, is_end, past_nan, stays_within}
pub use Rattle.snap_content.specs.Quotes.{is_special, ends_badly, needs_quotes, starts_badly, starts_as_hexadecimal, is_reserved, is_leading}
pub use Rattle.snap_print.specs.Bare.{is_escaped, IsBareBefore}
pub use Rattle.snap_print.specs.Readable.{IsWithin, AreWithin, AreEntriesWithin, is_word, IsNumber}
pub use Rattle.snap_print.specs.Spell.{escaped, escaped_code, spelling, is_flat, is_scalar, quoted}
pub use Rattle.snap_print.specs.Printed.{is_break, IsLine, IsRow, AreRows, EndsWell, is_trimmed, begins_dashes}
