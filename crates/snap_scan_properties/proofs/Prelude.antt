-- The words that the proofs of this crate speak in: those of the library, of the crates below, and of its own definitions.
pub use Rattle.std.proofs.Common.{◌≡◌, Result, ap, subst, ℕ, ◌<◌, ◌≤◌, ◌^◌, List, [], ◌∷◌, Bool, true, false, Ok, Err, length, nat_lt, refl, sym, ◌∙◌, arith, ◌+◌, ◌-◌, ◌*◌, ◌/◌, ◌%◌, All, append-nil, inl, inr, ◌≢◌, ◌==◌, ◌||◌, not, codes, suc, ◌&&◌, ◌++◌, Option, Some, None, slice_index, append_assoc, cond, if◌then◌else◌}
pub use Rattle.std.proofs.lemmas.Bool.{cases_lt, and_from, ne_eqb, both_ways, or_parts, or_left, or_right, and_parts, false_from_ne_true, and_right, or_from}
pub use Rattle.std.proofs.lemmas.Bool.Decides.{nat_tests}
pub use Rattle.std.proofs.lemmas.List.Elements.{All-nil, All-cons, All-head, All-tail}
pub use Rattle.std.proofs.lemmas.Str.{encode_ascii, encodes-chars, chars-encodes, IsUtf8-from_is_utf8, is_utf8-from_IsUtf8, IsUtf8-past_char, IsUtf8-append, IsUtf8-encode, chars_past_char, chars-nil, IsUtf8-nil}
pub use Rattle.std.specs.Char.{digit_value, IsScalar, encode_utf8}
pub use Rattle.std.specs.Option.{is_some}
pub use Rattle.std.specs.Prelude.{take_while, IfErr, MatchResult}
pub use Rattle.std.specs.Str.{IsUtf8, chars_after, continuation_len, lead_bits, is_utf8}
unfoldable pub use Rattle.std.specs.Str.{chars}
pub use lib.Utf8.{encodes, scalar, scalar_cases, scalars, low_scalar}
unfoldable pub use lib.Utf8.{encode}
pub use Rattle.snap_scan_tokens.proofs.Explained.{explained}
pub use Rattle.snap_scan_tokens.proofs.Places.{passed-first, passed-none}
pub use Rattle.snap_scan_tokens.specs.Causes.{is_among, IsExplained, IsRefusedBy}
pub use Rattle.snap_scan_tokens.specs.Characters.{is_digit, is_alpha, is_uri, is_of}
pub use Rattle.snap_content.specs.Numbers.{is_nothing}
pub use Rattle.snap_scan_tokens.specs.Mark.{Mark}
pub use Rattle.snap_scan_tokens.specs.Place.{Place, skipped, skipped_while, mark_of, skip_from, passed, behind, Travels}
pub use Rattle.snap_scan_tokens.specs.Quoted.{hexadecimal, value_of}
pub use Rattle.snap_scan_tokens.specs.declared.info.ScanError.{ScanError}
pub use Rattle.snap_scan_tokens.specs.declared.info.ScanInfo.{ScanInfo}
pub use Rattle.snap_scan_tokens.specs.declared.info.ScanInfo.TheVariants.{S10, S22, S17, S21}
pub use Rattle.snap_scan_properties.specs.Anchor.{ends_name, named, anchor_from}
pub use Rattle.snap_scan_properties.specs.Characters.{IsFurther, is_first, least_code, Spells, SpellsNone, Continues, BreaksOff, SpellsNoCharacter, IsBadOctet}
pub use Rattle.snap_scan_properties.specs.Octets.{octets, spelled, before_octets, is_in_tag, escaped, text_of, placed, uri_from, some_uri_from, headed}
pub use Rattle.snap_scan_properties.specs.Reading.{Found, ◌>>=◌, Refuses, Reads, found, ahead, run_of}
pub use Rattle.snap_scan_properties.specs.Tag.{local, shorthand}
