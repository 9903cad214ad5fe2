-- The words that the proofs of this crate speak in: those of the library, of the crates below, and of its own definitions.
pub use Rattle.std.proofs.Common.{rules, ◌≡◌, ℕ, zero, suc, ◌+◌, ◌<◌, Bool, true, false, cond, List, [], ◌∷◌, ◌++◌, Option, None, Some, option_map, option_and_then, refl, sym, ap, ◌∙◌, subst, arith, drop, length, drop-cons, add-one, append_assoc, append-nil, slice_get, get_or, set, ◌≤◌, ◌⊎◌, inl, inr, IfOk, IfErr, OnErr, Result, Ok, Err, Bor}
pub use Rattle.std.specs.Prelude.{option_copied, position, ◌==◌}
pub use Rattle.std.proofs.lemmas.Bool.{eqb-true, eqb-false}
pub use Rattle.std.proofs.lemmas.List.{drop_all}
pub use Rattle.std.proofs.lemmas.List.Folds.{concat-append}
pub use Rattle.std.specs.List.{concat, remove}
pub use Rattle.std.specs.Str.{bytes_eq}
unfoldable pub use Rattle.std.specs.Str.{chars}
pub use Rattle.snap_content.specs.View.{tree, item_list, item_trees, pair_list, pair_trees, Pairs}
pub use Rattle.snap_content.specs.declared.content.Content.{Content, Map}
pub use Rattle.snap_str.specs.Lines.{ended_lines, onto}
pub use Rattle.snap_text_literals.specs.Normal.{is_fence}
pub use Rattle.snap_front.specs.Split.{Cut, with_line, at_fence, front_lines, texts_of, front_read}
pub use Rattle.snap_front.specs.TreePaths.{is_key, value_in, item_at, step_in, get_tree, with_entry, with_item, put_step, set_tree, without_entry, without_item, cut_step, remove_tree}
pub use Rattle.snap_front.specs.Paths.{steps_of, step_of, steps_in, path_in, IsPath, IsOther, IsNoPath, IsRefusedPath}
pub use Rattle.snap_front.specs.declared.step.Step.{Step}
pub use Rattle.snap_front.specs.declared.step.Step.TheVariants.{Key, Index}
pub use Rattle.snap_select.specs.declared.segment.Segment.{Segment}
pub use Rattle.snap_select.specs.Parts.{Parts}
pub use Rattle.snap_select.specs.Selectors.{parts_of}
pub use Rattle.snap_front.specs.Setting.{IsSet}
pub use Rattle.snap_front.specs.Removing.{IsRemoved}
