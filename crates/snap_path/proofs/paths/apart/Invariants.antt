use Rattle.snap_path.proofs.Prelude.{◌≡◌, length, Utf8, shadow, chars, apart, components}
use Rattle.snap_path.proofs.paths.apart.Given as goal

-- what is left falls apart as the whole does
abbrev pub invariant-loop-path_rest : goal.invariant-loop-path_rest
invariant-loop-path_rest l = record {
  path_utf8 : shadow (Utf8 l.path_left);
  base_utf8 : shadow (Utf8 l.base_left);
  same : apart (components (chars l.path_left)) (components (chars l.base_left)) ≡ apart (components (chars l.initial.path)) (components (chars l.initial.base));
}

abbrev pub decreases-loop-path_rest : goal.decreases-loop-path_rest
decreases-loop-path_rest l = length (chars l.path_left)
