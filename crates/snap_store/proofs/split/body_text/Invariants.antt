use Rattle.snap_store.proofs.Prelude.{◌≡◌, ◌++◌, length, map, Utf8, shadow, flat_map, chars, ended_lines, line_of, lines_text}
use Rattle.snap_store.proofs.Pieces.{behind_break}
use Rattle.snap_store.proofs.split.body_text.Given as goal

-- the lines so far, and those that are left, each after a line's end
abbrev pub invariant-loop-piece : goal.invariant-loop-piece
invariant-loop-piece l = record {
  utf8 : shadow (Utf8 l.rest);
  so_far : l.body ++ flat_map behind_break (map line_of (ended_lines (chars l.rest))) ≡ lines_text (ended_lines (chars l.fn.text));
}

abbrev pub decreases-loop-piece : goal.decreases-loop-piece
decreases-loop-piece l = length (chars l.rest)
