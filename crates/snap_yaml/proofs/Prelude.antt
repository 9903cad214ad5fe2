-- The words that the proofs of this crate speak in: those of the library, of the crates below, and of its own definitions.
pub use Rattle.std.proofs.Common.{◌≡◌, take, map, sym, ◌∙◌, drop, ℕ, zero, suc, ℤ, pos, negsuc, ◌≤◌, ◌^◌, List, [], ◌∷◌, Bool, true, false, ◌&&◌, ◌||◌, Option, Some, None, nat_lt, refl, ap, arith, subst, cond, if◌then◌else◌, length, ◌+◌, ◌-◌, ◌*◌, not, rules, option_map, slice_get, option_copied, Bor}
pub use Rattle.std.proofs.lemmas.Bool.{and_from, and_parts}
pub use Rattle.std.proofs.lemmas.Bool.Decides.{nat_tests}
pub use Rattle.std.proofs.lemmas.Cmp.{ranked, int_ranked, tied_itself}
pub use Rattle.std.specs.Char.{digit_value, is_ascii, is_ascii_digit}
pub use Rattle.std.specs.List.{list_all}
pub use Rattle.std.specs.Prelude.{IsTrue, neg_ℤ, ◌==◌, nat_le, codes}
pub use Rattle.std.specs.Str.{chars, IsUtf8, bytes_eq}
pub use Rattle.std.specs.Str.Parse.{AllDigits, IsNumeral, digits_value, without_leading_sign, signed_digits_value, digits_value_after}
pub use Rattle.std.specs.declared.cmp.Ordering.{Ordering}
pub use Rattle.std.specs.declared.cmp.Ordering.TheVariants.{Less, Equal, Greater}
pub use Rattle.snap_content.proofs.Ends.{bytes_are, same_texts}
pub use Rattle.snap_yaml.specs.Lookup.{first_value, value_at_index, is_text}
pub use Rattle.snap_yaml.specs.Orders.{values_cmp, pairs_cmp, value_cmp}
pub use Rattle.snap_yaml.specs.TotalOrder.{value_total}
pub use Rattle.snap_yaml.specs.Typing.{is_digits_in, is_integer_in, integer_of, prefixed_number, is_real_text, integer_or, typed_number, typed_word, typed_yaml}
pub use Rattle.snap_yaml.specs.Value.{Value}
pub use Rattle.snap_yaml.specs.View.{value_of, array_list, pair_value, hash_list, array_values, hash_values, Array}
