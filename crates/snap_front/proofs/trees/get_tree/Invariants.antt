use Rattle.snap_front.proofs.Prelude.{◌≡◌, drop, tree, get_tree, steps_of}
use Rattle.snap_front.proofs.trees.get_tree.Given as goal

-- what is left of the path leads on from here to where the whole leads
abbrev pub invariant-loop-step : goal.invariant-loop-step
invariant-loop-step l = get_tree (drop l.step-index l.step-items) (tree l.here) ≡ get_tree (steps_of l.path) (tree l.fn.content)
