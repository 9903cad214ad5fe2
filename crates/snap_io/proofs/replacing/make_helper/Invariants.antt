use Rattle.snap_io.proofs.Prelude.{◌≡◌, asked_of, tried}
use Rattle.snap_io.proofs.replacing.make_helper.Given as goal

-- the names before this one were taken
abbrev pub invariant-loop-number : goal.invariant-loop-number
invariant-loop-number g l = asked_of l.disk ≡ tried l.path l.bits l.number (asked_of l.fn.disk)
