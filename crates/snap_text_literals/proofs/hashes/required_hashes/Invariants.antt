use Rattle.snap_text_literals.proofs.Prelude.{◌≡◌, ◌≤◌, max, length, Utf8, shadow, chars, required}
use Rattle.snap_text_literals.proofs.hashes.required_hashes.Given as goal

abbrev pub invariant-loop-c : goal.invariant-loop-c
invariant-loop-c l = record {
  utf8 : shadow (Utf8 l.rest);
  same : max l.most (required (chars l.rest)) ≡ required (chars l.fn.text);
  bound : length (chars l.rest) ≤ length (chars l.fn.text);
}

abbrev pub decreases-loop-c : goal.decreases-loop-c
decreases-loop-c l = length (chars l.rest)
