use Rattle.snap_select.proofs.Prelude.{◌≡◌, drop, map, step_of, fit_each}
use Rattle.snap_select.proofs.matching.fit_each.Given as goal

-- what is left fits as the whole does
abbrev pub invariant-loop-segment : goal.invariant-loop-segment
invariant-loop-segment l = fit_each (drop l.segment-index l.segments) (map step_of l.rest) ≡ fit_each l.segments (map step_of l.fn.path)
