-- The words that the proofs of this crate speak in: those of the library, of the crates below, and of its own definitions.
pub use Rattle.std.proofs.Common.{◌≡◌, Bool, true, false, if◌then◌else◌, Option, None, Some, List, [], ◌∷◌, ◌++◌, map, refl, sym, ◌∙◌, ap, append_assoc, append-nil, unwrap_or, subst, ℕ, ℤ, ◌==◌, ◌||◌, ◌&&◌, nat_lt, arith}
pub use Rattle.std.specs.Prelude.{Result, IfOk, codes}
pub use Rattle.std.specs.Str.{bytes_eq, chars}
pub use Rattle.snap_content.specs.Plain.{Plain}
pub use Rattle.snap_content.specs.Quotes.{needs_quotes}
pub use Rattle.snap_print.specs.Readable.{IsWithin, AreWithin, AreEntriesWithin, IsNumber}
pub use Rattle.snap_print.specs.Blocks.{Blocks, before_more, as_block}
pub use Rattle.snap_print.specs.Lines.{before_items, before_entries, document_of}
pub use Rattle.snap_parse_events.specs.Nodes.{Node, alias, scalar, list, dict, Nodes, no_nodes, node, Pairs, no_pairs, pair, node_onto, nodes_onto, pairs_onto, documents_onto, stream_events}
pub use Rattle.snap_parse_events.specs.declared.event.Event.{Event}
pub use Rattle.snap_parse_laws.proofs.Documents.{plain-source}
pub use Rattle.snap_parse_laws.specs.Tokens.{document_tokens}
pub use Rattle.snap_parse_laws_json.specs.Nodes.{json_node, json_nodes, json_pairs}
pub use Rattle.snap_parse_events.specs.Parsing.{Parsing, WillGive, meaning}
pub use Rattle.snap_parse_events.specs.Place.{start_spot, Spot}
pub use Rattle.snap_parse_events.specs.Twin.{Yields, Parsed, parse_step, stage_step, finished, then_one}
pub use Rattle.snap_scan.specs.Owed.{Owes, fetched, Steps, none_more, one_more, type_of}
pub use Rattle.snap_scan.specs.Scan.{start_scan}
pub use Rattle.snap_scan_tokens.specs.Place.{before_nul}
pub use Rattle.snap_scan_tokens.specs.declared.token.TokenType.{TokenType}
pub use Rattle.snap_yaml.specs.Readers.{is_bad}
pub use Rattle.snap_yaml.specs.Value.{Value, hash, bad_value}
pub use Rattle.snap_parse.specs.Aliases.{is_alias, has_alias}
pub use Rattle.snap_parse.specs.Documents.{paired, behind, and_some, node_value, values_in, values_in_pairs, document_value, scalar_value}
pub use Rattle.snap_parse.specs.Loaded.{AreLoaded, AreLoadedOf, AreValuesOf, scan_error}
pub use Rattle.snap_parse.specs.PrintedEvents.{child_tree, child_node, node_of, tree_of, trees_of, entries_of, nodes_of, pairs_of}
pub use Rattle.snap_parse.specs.PrintedValues.{read_value, read_values, read_pairs, read_number}
pub use Rattle.snap_parse.specs.Steps.{Held, in_list, in_dict, LoadState, start, put_in, put, closed, step, steps}
pub use Rattle.snap_parse.specs.TextNodes.{AreNodesOf}
