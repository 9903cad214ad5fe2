use Rattle.snap_scan.specs.Scan.{left}
use Rattle.tests_scan.proofs.calls.gives_the_same.Given as goal

abbrev pub decreases-tokens : goal.decreases-tokens
decreases-tokens l = left l.plain
