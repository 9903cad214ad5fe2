use Rattle.snap_text_literals.proofs.Prelude.{◌≡◌, ◌++◌, length, Utf8, shadow, flat_map, chars, behind_end, lines}
use Rattle.snap_text_literals.proofs.inline.push_lines.Given as goal

abbrev pub invariant-loop-line : goal.invariant-loop-line
invariant-loop-line l = record {
  utf8 : shadow (Utf8 l.rest);
  same : l.made ++ flat_map (behind_end l.fn.byte) (lines (chars l.rest)) ≡ l.fn.made ++ flat_map (behind_end l.fn.byte) (lines (chars l.fn.text));
}

abbrev pub decreases-loop-line : goal.decreases-loop-line
decreases-loop-line l = length (chars l.rest)
