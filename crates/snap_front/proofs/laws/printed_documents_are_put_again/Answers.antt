use Rattle.snap_print.specs.Blocks.{off}
use Rattle.snap_front.proofs.Again.{put-again}
use Rattle.snap_front.proofs.laws.printed_documents_are_put_again.Goals as goal

pub returns : goal.returns
returns c = put-again (c.printed_lines_are_rows.ensures.rows off)
