use Rattle.snap_text_literals.proofs.Prelude.{◌≡◌, ◌≤◌, length, Utf8, shadow, chars, past_blanks}
use Rattle.snap_text_literals.proofs.units.past_blanks.Given as goal

abbrev pub invariant-loop-c : goal.invariant-loop-c
invariant-loop-c l = record {
  utf8 : shadow (Utf8 l.rest);
  same : past_blanks (chars l.rest) ≡ past_blanks (chars l.fn.text);
  bound : length (chars l.rest) ≤ length (chars l.fn.text);
}

abbrev pub decreases-loop-c : goal.decreases-loop-c
decreases-loop-c l = length (chars l.rest)
