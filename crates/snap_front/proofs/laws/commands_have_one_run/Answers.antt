use Rattle.snap_front.proofs.Bodies.{one-run}
use Rattle.snap_front.proofs.laws.commands_have_one_run.Goals as goal

pub returns : goal.returns
returns c = one-run
