use Rattle.snap_assert.proofs.Halting.{settling_is}
use Rattle.snap_assert.proofs.laws.the_changes_are_those_of_the_step.Goals as goal

pub returns : goal.returns
returns c = settling_is
