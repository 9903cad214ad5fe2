use Rattle.snap_io.proofs.Prelude.{◌≡◌, ◌++◌}
use Rattle.snap_io.proofs.Folders.{names_after}
use Rattle.snap_io.proofs.files.MemoryFiles.names_in.Given as goal

-- the names so far and those to come are the names of all entries
abbrev pub invariant-loop-path : goal.invariant-loop-path
invariant-loop-path l = l.names ++ names_after l.front l.path-iterator ≡ names_after l.front l.initial.path-iterator
