use Rattle.snap_scan_blocks.proofs.Prelude.{arith}
use Rattle.snap_scan_blocks.proofs.indentation.scan_opening.Goals as goal

pub returns-in_ok-reached-in-None-clause-value : goal.returns-in_ok-reached-in-None-clause-value
returns-in_ok-reached-in-None-clause-value c =
    c.in_ok-reached-in-None.ensures.value c.found_indentation.result (omega (arith, c.found_indentation.ensures))
