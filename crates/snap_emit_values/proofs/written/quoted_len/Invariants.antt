use Rattle.snap_emit_values.proofs.Prelude.{◌≡◌, ◌+◌, length, Utf8, shadow, flat_map, chars, escaped}
use Rattle.snap_emit_values.proofs.written.quoted_len.Given as goal

abbrev pub invariant-loop-c : goal.invariant-loop-c
invariant-loop-c l = record {
  utf8 : shadow (Utf8 l.rest);
  counted : l.count + length (flat_map escaped (chars l.rest)) ≡ 2 + length (flat_map escaped (chars l.fn.value));
}

abbrev pub decreases-loop-c : goal.decreases-loop-c
decreases-loop-c l = length (chars l.rest)
