-- The words that the proofs of this crate speak in: those of the library, of the crates below, and of its own definitions.
pub use Rattle.std.proofs.Common.{◌≡◌, ◌==◌, ◌||◌, ◌&&◌, nat_lt, not, ℕ, List, [], ◌∷◌, ◌++◌, Bool, true, false, slice_index, refl, sym, ap, ◌∙◌, subst, arith, Option, None, Some, Ok, Err, ◌≤◌, ◌+◌, max, codes, length, ◌≢◌, if◌then◌else◌}
pub use Rattle.std.specs.Prelude.{is_some}
pub use Rattle.snap_content.proofs.Booleans.{or_left, or_right, not_true, both_second, both_first}
pub use Rattle.snap_scan_tokens.specs.Characters.{is_blank, is_break, is_pair, is_break_or_end, is_of, past_break}
pub use Rattle.snap_scan_tokens.specs.Mark.{Mark}
pub use Rattle.snap_scan_tokens.specs.Place.{Place, skipped, passed, skipped_while, mark_of, Travels}
pub use Rattle.snap_scan_tokens.specs.declared.characters.Kind.TheVariants.{InLine, Space}
pub use Rattle.snap_scan_tokens.specs.declared.info.ScanError.{ScanError}
pub use Rattle.snap_scan_tokens.specs.declared.info.ScanError.TheVariants.{OutOfMemory, Syntax}
pub use Rattle.snap_scan_blocks.specs.Block.{Read, between, within, stop, opened, Block, lines_from, indentation_of, is_bad_tab, content_of, block_of, block_behind, ReadsBlock, block_fault, widest, first_sign}
pub use Rattle.snap_scan_blocks.specs.Header.{Headed, ReadsHeader, header_from, header_fault}
pub use Rattle.snap_scan_blocks.specs.Lines.{with_empty, with_line, with_character, ended, joined, no_lines, with_breaks, chomped}
pub use Rattle.snap_scan_blocks.specs.Steps.{is_open, Passes, IsRefusedOpening, ReadsLines, IsRefusedLine}
pub use Rattle.snap_scan_blocks.specs.declared.block_scalar.BlockScalar.{BlockScalar}
pub use Rattle.snap_scan_blocks.specs.declared.lines.Lines.{Lines}
