use Rattle.snap_store.proofs.Prelude.{◌≡◌, length, map, Utf8, shadow, chars, ended_lines, line_of, past_blank}
use Rattle.snap_store.proofs.legacy.behind_blank.Given as goal

abbrev pub invariant-loop-piece : goal.invariant-loop-piece
invariant-loop-piece l = record {
  utf8 : shadow (Utf8 l.rest);
  same : past_blank (map line_of (ended_lines (chars l.rest))) ≡ past_blank (map line_of (ended_lines (chars l.fn.text)));
}

abbrev pub decreases-loop-piece : goal.decreases-loop-piece
decreases-loop-piece l = length (chars l.rest)
