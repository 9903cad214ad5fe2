use Rattle.snap_path.proofs.Prelude.{◌≡◌, ◌++◌, false, length, Utf8, shadow, chars, components, steps_up, then_slashed, stand_behind}
use Rattle.snap_path.proofs.components.push_steps.Given as goal

-- the steps so far, and those for what is left after them
abbrev pub invariant-loop-next : goal.invariant-loop-next
invariant-loop-next l = record {
  utf8 : shadow (Utf8 l.rest);
  so_far : l.path ++ then_slashed l.is_behind (steps_up (components (chars l.rest))) ≡ l.fn.path ++ then_slashed false (steps_up (components (chars l.fn.text)));
  behind : stand_behind l.is_behind (steps_up (components (chars l.rest))) ≡ stand_behind false (steps_up (components (chars l.fn.text)));
}

abbrev pub decreases-loop-next : goal.decreases-loop-next
decreases-loop-next l = length (chars l.rest)
