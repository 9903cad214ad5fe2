-- The words that the proofs of this crate speak in: those of the library, of the crates below, and of its own definitions.
pub use Rattle.std.proofs.Common.{◌≡◌, ◌≢◌, ◌⊎◌, inl, inr, refl, sym, ap, ◌∙◌, subst, rules, arith, ℕ, ℤ, zero, suc, pos, negsuc, ◌+◌, ◌-◌, ◌*◌, ◌/◌, ◌%◌, ◌^◌, ◌<◌, ◌≤◌, List, [], ◌∷◌, ◌++◌, map, length, Bool, true, false, not, cond, ◌&&◌, ◌||◌, ◌==◌, Option, None, Some, codes, append_assoc, append-nil, encode_utf8_all}
pub use Rattle.std.proofs.lemmas.Bool.Decides.{nat_tests}
pub use Rattle.std.proofs.lemmas.Str.{encodes-append, encodes-chars}
pub use Rattle.std.proofs.Math.Utf8.{scalar, scalars, encode, encodes, low_scalar}
pub use Rattle.std.specs.Fmt.{decimal}
pub use Rattle.std.specs.List.{list_any, concat, flat_map}
pub use Rattle.std.specs.Prelude.{if◌then◌else◌, unwrap_or}
pub use Rattle.snap_content.specs.Plain.{Plain, plain, plains, Plains, no_items, item}
pub use Rattle.snap_content.specs.View.{tree, item_list, item_trees}
pub use Rattle.snap_demo.specs.Numbers.{next_of}
pub use Rattle.snap_demo.specs.Requests.{demo_file, demo_name, tag_of, tags_from, demo_value, demo_tree}
pub use Rattle.snap_demo.specs.Stream.{demo_text, demo_document, documents_from, demo_documents, demo_input}
