use Rattle.snap_scan.proofs.Prelude.{◌≡◌, ◌++◌, map, take, drop, fresh}
use Rattle.snap_scan.proofs.keys.give_up_all_stale.Given as goal

abbrev pub invariant-loop-key : goal.invariant-loop-key
invariant-loop-key l = take l.key-index l.keys ++ map (fresh l.mark) (drop l.key-index l.keys) ≡ map (fresh l.mark) l.fn.keys
