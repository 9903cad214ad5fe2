use Rattle.snap_emit_values.proofs.Prelude.{◌≡◌, ◌++◌, List, [], ◌∷◌, ℕ, length, Utf8, shadow, flat_map, chars, escaped}
use Rattle.snap_emit_values.proofs.scalars.push_quoted.Given as goal

abbrev pub invariant-loop-c : goal.invariant-loop-c
invariant-loop-c l = record {
  utf8 : shadow (Utf8 l.rest);
  done : List ℕ;
  added : l.out ≡ (l.fn.out ++ 34 ∷ []) ++ done;
  split : flat_map escaped (chars l.fn.value) ≡ done ++ flat_map escaped (chars l.rest);
}

abbrev pub decreases-loop-c : goal.decreases-loop-c
decreases-loop-c l = length (chars l.rest)
