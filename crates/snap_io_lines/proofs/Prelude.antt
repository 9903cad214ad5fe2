-- The words that the proofs of this crate speak in.
pub use Rattle.std.proofs.Common.{◌≡◌, ◌==◌, ℕ, zero, suc, ◌+◌, ◌-◌, ◌<◌, ◌≤◌, List, [], ◌∷◌, ◌++◌, Bool, true, false, Option, Some, length, take, drop, get_or, refl, sym, ap, ◌∙◌, arith, append_assoc, append-nil, length-append, drop-cons, add-one}
pub use Rattle.std.proofs.lemmas.Bool.{or_from}
pub use Rattle.std.proofs.lemmas.Bool.Decides.{nat_tests}
pub use Rattle.std.specs.List.{list_any}
pub use Rattle.snap_content.proofs.Booleans.{or_left, or_right}
pub use Rattle.memchr.specs.Find.{Nowhere, Passes, is_byte}
pub use Rattle.snap_str.specs.Cut.{Lacks, IsCutAtFirst}
pub use Rattle.snap_io.specs.Streams.{GivesFront}
pub use Rattle.snap_io_streams.specs.Streams.{TakesPiece}
pub use Rattle.snap_io_lines.specs.Ahead.{line_limit, IsAhead, SpendsOf, IsEndedLine, IsLastLine, IsLong, HandsPiece, HandsAll, HandsOut, StopsLine, StopsPiece}
pub use Rattle.snap_io_lines.specs.declared.lines.LineError.{LineError}
pub use Rattle.snap_io_lines.specs.declared.lines.LineError.TheVariants.{Fault, LineTooLong, InputTooLong, OutOfMemory}
