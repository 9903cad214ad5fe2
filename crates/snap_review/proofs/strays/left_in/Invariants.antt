use Rattle.snap_review.proofs.Prelude.{◌≡◌, ◌++◌, drop, chars}
use Rattle.snap_review.specs.Strays.{left_in}
use Rattle.snap_review.proofs.strays.left_in.Given as goal

-- the paths so far, and those of the rest, are all
abbrev pub invariant-loop-name : goal.invariant-loop-name
invariant-loop-name l = l.paths.items ++ left_in l.folder (chars l.file) (drop l.name-index l.names) ≡ left_in l.folder (chars l.file) l.names
