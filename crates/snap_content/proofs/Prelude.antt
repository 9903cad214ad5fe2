-- The words that the proofs of this crate speak in: those of the library, of the crates below, and of its own definitions.
pub use Rattle.std.proofs.Common.{ap, ◌≡◌, take, map, sym, ◌∙◌, drop, rules, ◌≤◌, ◌+◌, arith, refl, inl, length-set, ◌*◌, List, ◌++◌, length, true, of_calls, ℕ, zero, suc, ◌<◌, [], ◌∷◌, Bool, ◌&&◌, nat_lt, lit<, false, ℤ, pos, negsuc, ◌^◌, ◌-◌, subst, length-append, ◌||◌, not, Some, cond, append-nil, get_or, set, add-one, drop-cons, filter, inr, append_assoc, Box, Global, MutBor, string_bytes}
pub use Rattle.std.proofs.lemmas.Cmp.{tied_itself, ranked, int_ranked}
pub use Rattle.std.proofs.lemmas.List.{drop_all, drop-set-lt, length-map, get_or-map, map-append, take_more_set, take_all}
pub use Rattle.std.proofs.lemmas.List.Elements.{filter_agree, All-cons, All-head, All-tail, All-nil}
pub use Rattle.std.proofs.lemmas.List.Sorted.{IsPermutation-map, IsPermutation-refl, ranks_by, sorted_far, All-permutation, answers_always}
pub use Rattle.std.proofs.lemmas.Str.{chars-IsAscii, encodes-chars, encodes-append, chars_from_encodes, IsCharBoundary-from_drop, chars-nil, encodes-IsAscii, chars_past_char, chars-append, IsUtf8-string_bytes}
pub use Rattle.std.specs.Box.{with_value}
pub use Rattle.std.specs.Char.{is_ascii, is_whitespace}
pub use Rattle.std.specs.Cmp.{IsStrictWeakOrder}
pub use Rattle.std.specs.Cmp.Lexicographic.{slice_cmp}
pub use Rattle.std.specs.List.{list_all, list_any, All}
pub use Rattle.std.specs.List.Sorted.{IsPermutation, IsSortedBy, IsStableBy, ties}
pub use Rattle.std.specs.Ordering.{is_lt, ordering_reverse, ordering_then, nat_cmp, int_cmp, bool_cmp, is_eq}
pub use Rattle.std.specs.Prelude.{IsTrue, ◌⊎◌, ◌==◌, ⊤}
pub use Rattle.std.specs.Str.{chars, IsAscii, IsUtf8, IsCharBoundary, bytes_eq}
pub use Rattle.std.specs.declared.cmp.Ordering.{Ordering}
pub use Rattle.std.specs.declared.cmp.Ordering.TheVariants.{Less, Equal, Greater}
pub use lib.Utf8.{encodes}
unfoldable pub use lib.Utf8.{encode}
pub use mir.Syntax.{w128, named, place}
pub use mir.Val.{SFits, to_z, of_z, Val, vptr}
pub use Rattle.snap_content.specs.Access.{resolved, wraps, rewrapped}
pub use Rattle.snap_content.specs.Count.{count, count_items, count_pairs, count_fields, is_leaf}
pub use Rattle.snap_content.specs.KeyLaws.{key_total}
pub use Rattle.snap_content.specs.Lending.{with_wrapped, LendsTree, box_row}
pub use Rattle.snap_content.specs.Orders.{trees_cmp, pairs_cmp, fields_cmp, text_cmp, tree_cmp}
pub use Rattle.snap_content.specs.Sorted.{InKeyOrder, AsBeforeOrInKeyOrder, Entry, ItemsRearranged, PairsRearranged, FieldsRearranged, Rearranged, Sorted}
pub use Rattle.snap_content.specs.Text.{characters_of}
pub use Rattle.snap_content.specs.TotalOrder.{tree_total}
pub use Rattle.snap_content.specs.View.{tree, item_list, pair_tree, pair_list, field_tree, field_list, item_trees, pair_trees, field_trees, Pairs, Fields, Items}
pub use Rattle.snap_content.specs.Walked.{in_leaf, Calls, ItemsWalked, PairsWalked, FieldsWalked, NeverGrows, Walked, stays, enters, WalkedInside, in_some, in_newtype_struct, in_newtype_variant, in_seq, in_tuple, in_tuple_struct, in_tuple_variant, in_map, in_struct, in_struct_variant, no_items, item, no_pairs, pair, no_fields, field}
pub use Rattle.snap_content.specs.declared.content.Content.{the_lemmas, Content, Map, Struct, StructVariant, Some', NewtypeStruct', NewtypeVariant', NewtypeStruct, NewtypeVariant, Seq, Tuple, TupleStruct, TupleVariant}
