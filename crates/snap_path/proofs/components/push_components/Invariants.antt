use Rattle.snap_path.proofs.Prelude.{◌≡◌, ◌++◌, length, Utf8, shadow, chars, components, then_slashed, stand_behind}
use Rattle.snap_path.proofs.components.push_components.Given as goal

-- what stands so far, and what is left after it
abbrev pub invariant-loop-part : goal.invariant-loop-part
invariant-loop-part l = record {
  utf8 : shadow (Utf8 l.rest);
  so_far : l.path ++ then_slashed l.is_behind (components (chars l.rest)) ≡ l.fn.path ++ then_slashed l.fn.is_behind (components (chars l.fn.text));
  behind : stand_behind l.is_behind (components (chars l.rest)) ≡ stand_behind l.fn.is_behind (components (chars l.fn.text));
}

abbrev pub decreases-loop-part : goal.decreases-loop-part
decreases-loop-part l = length (chars l.rest)
