use Rattle.snap_explain.proofs.Prelude.{◌≡◌, length, chars, lines}
use denote.Text.{Utf8}
use denote.Shadow.{shadow}
use Rattle.snap_explain.specs.LineEnds.{are_alike}
use Rattle.snap_explain.proofs.line_ends.are_alike_lines.Given as goal

abbrev pub invariant-loop-line : goal.invariant-loop-line
invariant-loop-line l = record {
  left_utf8 : shadow (Utf8 l.left);
  right_utf8 : shadow (Utf8 l.right);
  same : are_alike (lines (chars l.left)) (lines (chars l.right)) ≡ are_alike (lines (chars l.fn.old)) (lines (chars l.fn.new));
}

abbrev pub decreases-loop-line : goal.decreases-loop-line
decreases-loop-line l = length (chars l.left)
