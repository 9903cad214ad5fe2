-- The words that the proofs of this crate speak in: those of the library, of the crates below, and of its own definitions.
pub use Rattle.std.proofs.Common.{rules, Result, IfOk, ◌≡◌, Bor, ◌<◌, ◌≤◌, ◌+◌, ◌||◌, ℕ, zero, suc, Bool, true, false, not, cond, List, [], ◌∷◌, ◌++◌, None, Some, slice_get, codes, length, take, drop, map, get_or, add-one, drop-cons, refl, sym, ap, ◌∙◌, subst, arith}
pub use Rattle.std.proofs.lemmas.List.{take_more, take_all, take-append-drop, map-append, drop_all}
pub use Rattle.std.proofs.lemmas.List.Folds.{list_any-append}
pub use Rattle.std.proofs.lemmas.Result.{IfOk-weaker}
pub use Rattle.std.specs.List.{list_any, position}
pub use Rattle.snap_content.proofs.Views.{tree-Map, tree-Struct, tree-StructVariant}
pub use Rattle.std.specs.Ordering.{is_eq}
pub use Rattle.snap_content.proofs.Booleans.{or_left, or_right}
pub use Rattle.snap_content.proofs.SameTrees.{same_tree}
pub use Rattle.snap_content.specs.Orders.{tree_cmp}
pub use Rattle.snap_content.specs.TotalOrder.{tree_total}
pub use Rattle.snap_content.specs.View.{Pairs, Fields, pair_list, field_list, tree, item_trees, pair_trees, field_trees}
pub use Rattle.snap_content.specs.declared.content.Content.{Content, Map, Struct, StructVariant}
pub use Rattle.snap_select.specs.Matching.{Step, step_of, path_match, to_item, into_field, under_key}
pub use Rattle.snap_select.specs.Parts.{Parts}
pub use Rattle.snap_select.specs.Positions.{count_of}
pub use Rattle.snap_select.specs.Redacted.{redacted, inside, redacted_items, redacted_pairs, redacted_fields}
pub use Rattle.snap_select.specs.Selectors.{parts_of}
pub use Rattle.snap_select.specs.declared.path_item.PathItem.{PathItem}
pub use Rattle.snap_explain_values.specs.Missed.{hits, hits_inside, hits_items, hits_pairs, hits_fields, hits_keys, hits_values, first_missed}
pub use Rattle.snap_explain_values.specs.Twice.{is_same, stands_in, has_twice, keys_in, has_key_twice, item_has_twice, pair_has_twice, field_has_twice}
