-- The words that the proofs of this crate speak in: those of the library, of the crates below, and of its own definitions.
pub use Rattle.std.proofs.Common.{◌≡◌, List, [], ◌∷◌, Option, None, Some, Bool, true, false, not, refl, ap, ◌++◌, sym, ◌∙◌, subst, append_assoc, ℕ, ◌≤◌, ◌+◌, MatchOption, cond, arith, ◌&&◌, option_and_then, append-nil, ◌||◌, ◌==◌, codes, count_by, Ok, Err, if◌then◌else◌, rules, inl, inr}
pub use Rattle.std.proofs.lemmas.Bool.{and_parts}
pub use Rattle.std.specs.List.{list_all}
pub use Rattle.std.specs.Prelude.{⊤, All}
pub use Rattle.snap_parse_events.specs.Meaning.{Open, due, given, sequence, key, value, Meaning, ahead, open_in, ended, given_in, given_at, leaf, start, after, is_stream_end, after_all}
pub use Rattle.snap_parse_events.specs.declared.event.Event.{Event}
pub use Rattle.snap_scan.specs.Owed.{Owes, IsFirst, GivesOwed}
pub use Rattle.snap_scan.specs.Scan.{start_scan, Scan}
pub use Rattle.snap_scan.specs.Sound.{Holds, shown, is_end, IsFounded}
pub use Rattle.snap_scan_tokens.specs.declared.info.ScanError.{ScanError}
pub use Rattle.snap_scan_tokens.specs.declared.token.Token.{Token}
pub use Rattle.snap_scan_tokens.specs.declared.token.TokenType.{TokenType}
pub use Rattle.snap_parse_events.specs.Ends.{is_directive, is_document_end}
pub use Rattle.snap_parse_events.specs.Feed.{start_tokens, Took, Feeds, tokens_left}
pub use Rattle.snap_parse_events.specs.Machine.{spot_of, meaning_now, HasSigns, IsSoundIn}
pub use Rattle.snap_parse_events.specs.Names.{Names, Naming, id_of, is_same, IsAnchored, IsKnown, Registers}
pub use Rattle.snap_parse_events.specs.Parsing.{Parsing, meaning, WillGive, GoesOn, IsNext, Fails, source, events_left}
pub use Rattle.snap_parse_events.specs.Place.{meaning_in, Spot, start_spot}
pub use Rattle.snap_parse_events.specs.Runs.{passed_of, stops, goes, forgetting, Steps, Run, run_start, run_more, GetsMore, Passing, LoadsUpTo, LoadsPart, HandsOn, TellsStream, Refuses, Loses, Breaks, Leaves}
pub use Rattle.snap_parse_events.specs.Taking.{WillTake, WillTakeFrom, IsTakenFirst, TakesFirst}
pub use Rattle.snap_parse_events.specs.Twin.{Parsed, parse_step, stage_step, Yields, finished, then_one, at, left_spot, node_step, filled_step, first_document_step, bare}
pub use Rattle.snap_parse_events.specs.Errors.{load_error}
pub use Rattle.snap_parse_events.specs.declared.error.LoadError.{LoadError}
pub use Rattle.snap_parse_events.specs.declared.error.LoadError.TheVariants.{OutOfMemory}
pub use Rattle.snap_parse_events.specs.declared.load.Passed.{Passed}
pub use Rattle.snap_parse_events.specs.declared.state.Stage.{Stage}
pub use Rattle.snap_parse_events.specs.declared.state.State.{State}
pub use Rattle.snap_parse_events.specs.declared.tokens.Tokens.{Tokens}
