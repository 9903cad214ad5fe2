use Rattle.snap_explain_scalars.proofs.Prelude.{◌≡◌, length, Utf8, shadow, chars, stays_short}
use Rattle.snap_explain_scalars.proofs.numbers.is_short.Given as goal

abbrev pub invariant-loop-c : goal.invariant-loop-c
invariant-loop-c l = record {
  utf8 : shadow (Utf8 l.rest);
  stays : stays_short l.number (chars l.rest) ≡ stays_short 0 (chars l.initial.text);
}

abbrev pub decreases-loop-c : goal.decreases-loop-c
decreases-loop-c l = length (chars l.rest)
