use Rattle.snap_scan.specs.Scan.{left}
use Rattle.rows_count.proofs.tokens.count.Given as goal

abbrev pub decreases-tokens : goal.decreases-tokens
decreases-tokens l = left l.scanner
