-- The words that the proofs of this crate speak in: those of the library, of the crates below, and of its own definitions.
pub use Rattle.std.proofs.Common.{◌≡◌, ℕ, ◌^◌, ◌<◌, ℤ, pos, negsuc, Bool, true, false, cond, not, ◌&&◌, nat_lt, List, [], ◌∷◌, ◌++◌, length, Option, None, Some, refl, ap, sym, ◌∙◌, arith}
pub use Rattle.std.proofs.lemmas.Bool.{lt-ltb}
pub use Rattle.std.specs.Option.{option_or}
pub use Rattle.std.specs.Prelude.{option_map, option_and_then, if◌then◌else◌}
pub use Rattle.snap_content.specs.Plain.{Plain, content_of, number_tree, Entries, entry, no_entries, pairs_made}
pub use Rattle.snap_content.specs.Tree.{Tree, i64, u64, u128, TreePairs, no_pairs, pair}
pub use Rattle.snap_content.specs.View.{tree, pair_trees}
pub use Rattle.snap_content.specs.declared.content.Content.{Content}
pub use Rattle.snap_fields.specs.Fields.{is_key, is_nil, last_by, last_in, last_filled_in, tree_text, tree_line, text_at, line_at}
pub use Rattle.snap_fields.specs.Made.{last_made, last_value, last_filled, text_value, line_value}
