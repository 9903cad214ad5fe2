use Rattle.snap_text_literals.proofs.Prelude.{◌≡◌, ◌≤◌, ◌<◌, ◌^◌, length, Utf8, shadow, chars, braced}
use Rattle.snap_text_literals.proofs.units.read_braced.Given as goal

abbrev pub invariant-loop-c : goal.invariant-loop-c
invariant-loop-c l = record {
  utf8 : shadow (Utf8 l.rest);
  count : l.count ≤ 6;
  value : l.value < 16 ^ l.count;
  same : braced l.count l.value (chars l.rest) ≡ braced 0 0 (chars l.fn.source);
  bound : length (chars l.rest) ≤ length (chars l.fn.source);
}

abbrev pub decreases-loop-c : goal.decreases-loop-c
decreases-loop-c l = length (chars l.rest)
