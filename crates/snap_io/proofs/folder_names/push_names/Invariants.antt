use Rattle.snap_io.proofs.Prelude.{◌≡◌, ◌++◌, length, names_in}
use Rattle.snap_io.proofs.folder_names.push_names.Given as goal

-- the names so far, and those in what is left
abbrev pub invariant-loop-name : goal.invariant-loop-name
invariant-loop-name l = l.names ++ names_in l.rest ≡ l.fn.names ++ names_in l.fn.bytes

abbrev pub decreases-loop-name : goal.decreases-loop-name
decreases-loop-name l = length l.rest
