use Rattle.snap_store.proofs.Prelude.{◌≡◌, ◌++◌, length, Utf8, shadow, concat, chars, ended_lines, up_to_fence}
use Rattle.snap_store.proofs.split.push_header.Given as goal

-- the header so far, and what is left of it
abbrev pub invariant-loop-piece : goal.invariant-loop-piece
invariant-loop-piece l = record {
  utf8 : shadow (Utf8 l.rest);
  so_far : l.header ++ concat (up_to_fence (ended_lines (chars l.rest))) ≡ l.fn.header ++ concat (up_to_fence (ended_lines (chars l.fn.text)));
}

abbrev pub decreases-loop-piece : goal.decreases-loop-piece
decreases-loop-piece l = length (chars l.rest)
