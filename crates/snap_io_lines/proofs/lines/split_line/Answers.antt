use Rattle.snap_io_lines.proofs.Cutting.{lacks_all, cut_here, cut_length}
use Rattle.snap_io_lines.proofs.lines.split_line.Goals as goal

pub returns-in-None : goal.returns-in-None
returns-in-None c = lacks_all c.args.bytes.now c.in-None.ensures

pub returns-in-Some : goal.returns-in-Some
returns-in-Some c = (
  cut_here c.args.bytes.now c.split_at.result.0.now c.in-Some.at c.in-Some.ensures.0.high c.in-Some.ensures.0.before c.in-Some.ensures.1 c.split_at.ensures.front,
  cut_length c.args.bytes.now c.split_at.result.0.now c.in-Some.at c.in-Some.ensures.0.high c.split_at.ensures.front,
)
