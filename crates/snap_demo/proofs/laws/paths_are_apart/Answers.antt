use Rattle.snap_demo.proofs.Apart.{paths_meet}
use Rattle.snap_demo.proofs.laws.paths_are_apart.Goals as goal

pub returns : goal.returns
returns c = paths_meet
