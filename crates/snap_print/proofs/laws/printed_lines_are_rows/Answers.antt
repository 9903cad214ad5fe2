use Rattle.snap_print.proofs.Rows.{printed-rows, printed-end}
use Rattle.snap_print.proofs.laws.printed_lines_are_rows.Goals as goal

pub returns-clause-rows : goal.returns-clause-rows
returns-clause-rows c = printed-rows

pub returns-clause-end : goal.returns-clause-end
returns-clause-end c = printed-end
