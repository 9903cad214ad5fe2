-- The words that the proofs of this crate speak in: those of the library, of the crates below, and of its own definitions.
pub use Rattle.std.proofs.Common.{◌||◌, is_some, map, rules, not, ◌≡◌, ℕ, ◌+◌, ◌<◌, Bool, true, false, cond, nat_eq, zero, suc, ◌≤◌, subst, ◌&&◌, ◌==◌, List, [], ◌∷◌, ◌++◌, length, take, drop, get_or, refl, sym, ◌∙◌, ap, arith, drop-cons, add-one, ◌-◌, length-drop, Option, None, Some, option_map, append_assoc, append-nil, codes, IfOk, IsErrOf, Result, Ok, Err}
pub use Rattle.std.proofs.lemmas.List.{get_or-drop, drop-drop, drop_all, take_all, take_more, drop_more}
pub use Rattle.std.specs.List.{slice_get, list_all, list_any, count_by}
pub use Rattle.std.specs.Option.{MatchOption}
pub use Rattle.std.specs.Prelude.{option_and_then}
pub use Rattle.std.specs.Str.{IsUtf8, chars}
pub use Rattle.snap_content.specs.Plain.{Plain, plain, content_of}
pub use Rattle.snap_content.specs.View.{tree, item_trees, item_list, Items, pair_trees}
pub use Rattle.snap_content.specs.declared.content.Content.{Content}
pub use Rattle.snap_emit.specs.Parsed.{MayBeReadAs}
pub use Rattle.snap_assert_place.specs.Place.{names_file}
pub use Rattle.snap_fields.specs.Fields.{last_in, text_at, line_at, tree_text, tree_line}
pub use Rattle.snap_select.proofs.Outcomes.{selector_selected}
pub use Rattle.snap_assert_settings.specs.Replaced.{ReplacementView, replacement_of, replacements_of}
pub use Rattle.snap_run_requests.specs.Faults.{IsKeyFault, IsMapOf, IsAssertionFault, IsAssertionEnd, IsBlockFault, IsPairsFault, IsTreeFault, IsTreeEnd, IsRedactionFault, IsRedactionEnd, IsReason, IsRefused, is_map}
pub use Rattle.snap_run_requests.specs.Keys.{value_at, assertion_table, block_table, redaction_table, asks_for_block, has_name, is_block_word, keys_in, times, is_one_of, IsKeyed, truth_of, list_of, name_of, Table}
pub use Rattle.snap_run_requests.specs.RequestOf.{assertion_of, request_of}
pub use Rattle.snap_run_requests.specs.Requests.{AssertionView, RequestView, asserts, begins, ends, IsAssertion, IsBlock, IsRequest, text_if, text_or_empty, IsRedaction, AreRedactions, AreRedactionsAt, Spells, ReadsAs, SelectsAt, sorted_by, put_by}
