use Rattle.snap_demo.proofs.PathOf.{path_is}
use Rattle.snap_demo.proofs.laws.the_path_is_that_of_the_assertion.Goals as goal

pub returns : goal.returns
returns c = path_is
