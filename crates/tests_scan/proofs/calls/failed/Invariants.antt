use Rattle.snap_scan.specs.Scan.{left}
use Rattle.tests_scan.proofs.calls.failed.Given as goal

abbrev pub decreases-tokens : goal.decreases-tokens
decreases-tokens l = left l.scanner
