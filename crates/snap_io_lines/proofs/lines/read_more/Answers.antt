use Rattle.snap_io_lines.proofs.Pieces.{ahead_filled, ahead_done}
use Rattle.snap_io_lines.proofs.lines.read_more.Goals as goal

pub returns-then-count-eq0-clause-end : goal.returns-then-count-eq0-clause-end
returns-then-count-eq0-clause-end g c = λ is all a. ahead_done _ _ _ _ _ c.requires.empty c.in-Ok.ensures.piece c.if-count-eq0.true (c.in-Ok.ensures.end c.if-count-eq0.true) all a

pub returns-else-count-eq0-clause-more : goal.returns-else-count-eq0-clause-more
returns-else-count-eq0-clause-more g c = λ is all a. ahead_filled _ _ _ _ _ c.requires.empty c.in-Ok.ensures.piece all a
