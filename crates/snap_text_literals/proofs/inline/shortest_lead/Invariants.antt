use Rattle.snap_text_literals.proofs.Prelude.{◌≡◌, length, Utf8, shadow, chars, shortest, indentation_of, lines}
use Rattle.snap_text_literals.proofs.inline.shortest_lead.Given as goal

abbrev pub invariant-loop-line : goal.invariant-loop-line
invariant-loop-line l = record {
  utf8 : shadow (Utf8 l.rest);
  best_utf8 : shadow (Utf8 l.best);
  bytes : length l.best ≡ length (chars l.best);
  same : shortest l.found (chars l.best) (lines (chars l.rest)) ≡ indentation_of (chars l.fn.text);
}

abbrev pub decreases-loop-line : goal.decreases-loop-line
decreases-loop-line l = length (chars l.rest)
