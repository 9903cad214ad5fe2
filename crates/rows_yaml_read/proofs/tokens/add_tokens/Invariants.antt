use Rattle.snap_scan.specs.Scan.{left}
use Rattle.rows_yaml_read.proofs.tokens.add_tokens.Given as goal

abbrev pub decreases-tokens : goal.decreases-tokens
decreases-tokens l = left l.scanner
