use Rattle.snap_scan.proofs.Prelude.{◌≡◌, ◌++◌, map, take, drop, lowered}
use Rattle.snap_scan.proofs.keys.lower_all.Given as goal

abbrev pub invariant-loop-key : goal.invariant-loop-key
invariant-loop-key l = take l.key-index l.keys ++ map lowered (drop l.key-index l.keys) ≡ map lowered l.fn.keys
