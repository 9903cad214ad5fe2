use Rattle.snap_emit_values.proofs.Prelude.{IsCharBoundary-from_ascii, IsAscii-list_all}
use Rattle.snap_emit_values.proofs.blanks.front.Goals as goal

pub range-requires-clause-end_boundary : goal.range-requires-clause-end_boundary
range-requires-clause-end_boundary c =
    IsCharBoundary-from_ascii c.args.text.now c.args.count (IsAscii-list_all c.args.text.now c.requires.ascii) c.requires.within
