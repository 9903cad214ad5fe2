use Rattle.snap_text_literals.proofs.Prelude.{◌≡◌, ◌++◌, length, Utf8, shadow, flat_map, chars, lines, given}
use Rattle.snap_text_literals.proofs.frame.push_all_given.Given as goal

abbrev pub invariant-loop-line : goal.invariant-loop-line
invariant-loop-line l = record {
  utf8 : shadow (Utf8 l.rest);
  same : l.made ++ flat_map (given l.fn.byte) (lines (chars l.rest)) ≡ l.fn.made ++ flat_map (given l.fn.byte) (lines (chars l.fn.text));
}

abbrev pub decreases-loop-line : goal.decreases-loop-line
decreases-loop-line l = length (chars l.rest)
