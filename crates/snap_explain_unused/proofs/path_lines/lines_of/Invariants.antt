use Rattle.snap_explain_unused.proofs.Prelude.{◌≡◌, ◌++◌, flat_map, line_of}
use Rattle.snap_explain_unused.proofs.path_lines.lines_of.Given as goal

abbrev pub invariant-loop-path : goal.invariant-loop-path
invariant-loop-path l = l.out ++ flat_map line_of l.path-iterator ≡ flat_map line_of l.paths.keys
