use Rattle.snap_assert.proofs.LiteralHalting.{records_are}
use Rattle.snap_assert.proofs.laws.the_records_are_those_of_the_step.Goals as goal

pub returns : goal.returns
returns c = records_are
