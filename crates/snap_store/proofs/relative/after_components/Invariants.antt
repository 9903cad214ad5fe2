use Rattle.snap_store.proofs.Prelude.{◌≡◌, length, Utf8, shadow, chars, apart, components}
use Rattle.snap_store.proofs.relative.after_components.Given as goal

-- what is left falls apart as the whole does
abbrev pub invariant-loop-part : goal.invariant-loop-part
invariant-loop-part l = record {
  path_utf8 : shadow (Utf8 l.path_left);
  base_utf8 : shadow (Utf8 l.base_left);
  same : apart (components (chars l.path_left)) (components (chars l.base_left)) ≡ apart (components (chars l.initial.path)) (components (chars l.initial.base));
}

abbrev pub decreases-loop-part : goal.decreases-loop-part
decreases-loop-part l = length (chars l.base_left)
