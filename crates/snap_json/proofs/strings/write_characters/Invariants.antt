use Rattle.snap_json.proofs.Prelude.{◌≡◌, ◌++◌, List, ℕ, length, Utf8, shadow, flat_map, chars, json_escaped, IsAdded, whole}
use Rattle.snap_json.proofs.strings.write_characters.Given as goal

abbrev pub invariant-loop-c : goal.invariant-loop-c
invariant-loop-c l = record {
  utf8 : shadow (Utf8 l.rest);
  done : List ℕ;
  added : IsAdded l.fn.out l.out (whole done);
  split : flat_map json_escaped (chars l.fn.value) ≡ done ++ flat_map json_escaped (chars l.rest);
}

abbrev pub decreases-loop-c : goal.decreases-loop-c
decreases-loop-c l = length (chars l.rest)
