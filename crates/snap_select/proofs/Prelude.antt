-- The words that the proofs of this crate speak in: those of the library, of the crates below, and of its own definitions.
pub use Rattle.std.proofs.Common.{◌≡◌, List, Result, Ok, Err, IfOk, subst, ℤ, ℕ, ◌∷◌, Some, sym, ap, ◌∙◌, zero, suc, pos, negsuc, neg_ℤ, ◌+◌, ◌*◌, ◌^◌, ◌<◌, ◌≤◌, Bool, true, false, [], ◌++◌, Option, None, cond, refl, arith, ◌-◌, length, take, drop, map, ◌⊎◌, inl, inr, append_assoc, append-nil, length-append, MatchBool, ◌≢◌, MatchOption, lit<, slice_get, nat_lt, Bor, is_some, get_or, set, add-one, drop-cons, option_and_then, option_map, filter, rules, of_calls, length-set, ◌↔◌, IfErr}
pub use Rattle.std.proofs.lemmas.Bool.{lt-leb, leb-false, ltb-true, and_parts, and_left, eqb-true, and_from, ne_eqb, cases_lt, ltb-false, and_right, le-leb, both_ways, eqb-false, lt-ltb, cond_both}
pub use Rattle.std.proofs.lemmas.Cmp.{lists_total, then_total, on_total, nat_cmp_total, tied_itself}
pub use Rattle.std.proofs.lemmas.List.{drop-map, length-map, length-drop, take_all, drop-set-lt, take_more_set, drop_all, map-append, take_more, get_or-map}
pub use Rattle.std.proofs.lemmas.List.Sorted.{ranks_by, sorted_far, answers_always}
pub use Rattle.std.proofs.lemmas.Option.{same_Some, option_and_then_some}
pub use Rattle.std.proofs.lemmas.List.Quantifiers.{position-Some}
pub use Rattle.std.proofs.lemmas.Result.{IfErr-weaker, IfOk-weaker, on_ok_weaker}
pub use Rattle.std.proofs.lemmas.Str.{encodes-chars, chars-nil, chars_from_encodes}
pub use Rattle.std.specs.Char.{is_digit, digit_value}
pub use Rattle.std.specs.Cmp.{IsTotalOrder, IsStrictWeakOrder}
pub use Rattle.std.specs.Fmt.{HasWritten, IsPlainFormatter}
pub use Rattle.std.specs.List.{list_all, list_any, All}
pub use Rattle.std.specs.Option.{option_map_or}
pub use Rattle.std.specs.Prelude.{◌==◌, ◌&&◌, ◌||◌, not, ⊤, codes, IsTrue, position, min}
pub use Rattle.std.specs.Str.{IsUtf8, IsAscii}
unfoldable pub use Rattle.std.specs.Str.{chars}
pub use Rattle.std.specs.Str.Parse.{digits_value, digits_value_after, IsNumeral, AllDigits, ParsesUnsigned, ParsesSigned, without_leading_plus, without_leading_sign, signed_digits_value}
pub use denote.Shadow.{shadow}
pub use denote.Text.{Utf8}
pub use mir.Syntax.{w64}
pub use mir.Val.{to_z, of_z}
pub use Rattle.snap_content.proofs.Ends.{bytes_are, same_texts}
pub use Rattle.snap_content.proofs.Joined.{joined, joined-push, joined-end, joined_pairs, joined_pairs-push, joined_pairs-end, joined_fields, joined_fields-push, joined_fields-end, left_turn, count_left, count_pairs_left, count_fields_left}
pub use Rattle.snap_content.specs.Count.{count, count_items, count_pairs, count_fields}
pub use Rattle.snap_content.specs.Orders.{tree_cmp}
pub use Rattle.snap_content.specs.TotalOrder.{tree_total}
pub use Rattle.snap_content.specs.View.{tree, item_list, pair_tree, pair_list, field_tree, field_list, Fields, Items, Pairs, item_trees, pair_trees, field_trees}
pub use Rattle.snap_content.specs.declared.content.Content.{Content, Seq, Map, Struct, StructVariant}
unfoldable pub use Rattle.unicode_ident.proofs.Computing.{unicode_ident}
unfoldable pub use Rattle.unicode_ident.specs.Ident.{is_xid_continue, is_xid_start}
pub use Rattle.snap_select.specs.Deep.{is_deep, has_deep}
pub use Rattle.snap_select.specs.Faults.{IsStuck, BadTokenAt, Opens, IsTooLarge, first, second, TooLargeAt, DeepTwiceAt, FaultAt, IsFault, FitsIndex, Begins}
pub use Rattle.snap_select.specs.Grammar.{is_blank, FitsBound, begins_name, signed_value, MayFit, Fits, AllFit, deep_count, ArePlain, AreBlanks, signed, IsSelector, dotted, bracketed, Spells, SpellsEach, MayFollowDot, Stands, SpellsPart, BeforeComma, EachBeforeComma, IsSpelled, IsName, Quoted, Quotes, SpellsBound, MayBound, unbounded, bounded, InQuotes, Bracketed, SpellsBounds}
pub use Rattle.snap_select.specs.InOrder.{ordered, items_in, pairs_in, fields_in, pair_cmp, field_cmp, in_order, put_in}
pub use Rattle.snap_select.specs.Matching.{lent_step, Step, last_of, path_match, to_item, into_field, under_key, fits_step, fit_each, matches_whole, matches_ends, segments_match, step_of}
pub use Rattle.snap_select.specs.Parts.{Parts}
pub use Rattle.snap_select.specs.PathText.{key_text, step_text, path_text}
pub use Rattle.snap_select.specs.Paths.{items_of}
pub use Rattle.snap_select.specs.Pieces.{past, number_value, IsNumberThen, front, is_decimal, Fails, IsNameThen, unsigned, IsNumber, is_plain, goes_on_dot, begins_segment}
pub use Rattle.snap_select.specs.Positions.{count_of, Child, wrapped, children, item_children, pair_children, field_children, part_at, path_at}
pub use Rattle.snap_select.specs.Put.{Allowed, Puts}
pub use Rattle.snap_select.specs.Reaching.{segments_reach, reaches, segments_open, opens}
pub use Rattle.snap_select.specs.Reading.{bracket, colon, inside, outcome, Token, dot, in_name, star, in_quotes, backslash, minus, number, behind_number, to_minus, to_number, closing, Move, on, ends, ended_before, nowhere, behind, move, whole, Place, before_part, first_dot, ready, behind_part, separate, follow, moved, step, with_last, ended, is_far, is_over, flaw_in, flaw, since_in, since, refuses, Outcome, selects, at_end, going, stepped}
pub use Rattle.snap_select.specs.Redacted.{redacted, redacted_items, redacted_pairs, redacted_fields}
pub use Rattle.snap_select.specs.Redacting.{Inside, ItemsRedacted, PairsRedacted, FieldsRedacted, RedactedAt, IsRedacted, only}
pub use Rattle.snap_select.specs.Redacts.{IsHit, IsUntouched, node, units, pair_units, field_units, IsKept, RedactsAt, Redacts}
pub use Rattle.snap_select.specs.Selectors.{parts_of}
pub use Rattle.snap_select.specs.Stops.{IsStop, GoesOn, StopsAt, Closes, ClosesNot, IsNumberBehind, once_deep, ReadsWildcard, ReadsDotted, ReadsSegment, ReadsPart, StopsPart}
pub use Rattle.snap_select.specs.declared.fault.SelectFault.{SelectFault}
pub use Rattle.snap_select.specs.declared.fault.SelectFault.TheVariants.{DeepTwice, TooLarge, BadToken}
pub use Rattle.snap_select.specs.declared.path_item.PathItem.{PathItem}
pub use Rattle.snap_select.specs.declared.segment.Segment.{Segment}
pub use Rattle.snap_select.specs.declared.segment.Segment.TheVariants.{DeepWildcard, Wildcard, Key, Index, Range}
pub use Rattle.snap_select.specs.declared.stop.Stop.{Stop}
