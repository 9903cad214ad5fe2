use Rattle.snap_assert_place.proofs.Prelude.{◌≡◌, ◌++◌, length, Utf8, shadow, chars, flat_module}
use Rattle.snap_assert_place.proofs.paths.push_module.Given as goal

abbrev pub invariant-loop-c : goal.invariant-loop-c
invariant-loop-c l = record {
  utf8 : shadow (Utf8 l.rest);
  so_far : l.out ++ flat_module (chars l.rest) ≡ l.initial.out ++ flat_module (chars l.initial.name);
}

abbrev pub decreases-loop-c : goal.decreases-loop-c
decreases-loop-c l = length (chars l.rest)
