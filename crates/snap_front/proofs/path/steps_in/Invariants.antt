use Rattle.snap_front.proofs.Prelude.{◌≡◌, ◌++◌, drop, option_map, steps_in}
use Rattle.snap_front.proofs.path.steps_in.Given as goal

-- after the steps so far stand those of the segments that are left
abbrev pub invariant-loop-segment : goal.invariant-loop-segment
invariant-loop-segment l = steps_in l.segments ≡ option_map (λ more. l.steps.items ++ more) (steps_in (drop l.segment-index l.segments))
