use Rattle.snap_text_literals.proofs.Prelude.{◌≡◌, length, Utf8, shadow, list_any, chars, lines, breaks_frame}
use Rattle.snap_text_literals.proofs.frame.some_breaks_frame.Given as goal

abbrev pub invariant-loop-line : goal.invariant-loop-line
invariant-loop-line l = record {
  utf8 : shadow (Utf8 l.rest);
  same : list_any (breaks_frame l.fn.byte) (lines (chars l.rest)) ≡ list_any (breaks_frame l.fn.byte) (lines (chars l.fn.text));
}

abbrev pub decreases-loop-line : goal.decreases-loop-line
decreases-loop-line l = length (chars l.rest)
