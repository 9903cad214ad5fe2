use Rattle.snap_pending.proofs.Prelude.{chars, lines, records_of}
use Rattle.snap_pending.proofs.LinesRead.{all_told}
use Rattle.snap_pending.proofs.loading.read_lines.Goals as goal

pub returns : goal.returns
returns c = all_told (lines (chars c.args.text.now)) (chars c.loop-line.rest.now) (records_of c.loop-line.records) c.in_default.ensures.line c.loop-line.invariant.told
