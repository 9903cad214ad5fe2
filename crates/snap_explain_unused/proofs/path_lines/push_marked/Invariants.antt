use Rattle.snap_explain_unused.proofs.Prelude.{◌≡◌, ◌++◌, length, flat_map, chars}
use denote.Shadow.{shadow}
use denote.Text.{Utf8}
use Rattle.snap_explain_unused.specs.Lines.{marked}
use Rattle.snap_explain_unused.proofs.path_lines.push_marked.Given as goal

abbrev pub invariant-loop-c : goal.invariant-loop-c
invariant-loop-c l = record {
  utf8 : shadow (Utf8 l.rest);
  so_far : l.out ++ flat_map marked (chars l.rest) ≡ l.initial.out ++ flat_map marked (chars l.initial.path);
}

abbrev pub decreases-loop-c : goal.decreases-loop-c
decreases-loop-c l = length (chars l.rest)
