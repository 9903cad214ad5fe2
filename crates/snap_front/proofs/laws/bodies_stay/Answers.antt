use Rattle.snap_front.proofs.Bodies.{bodies-stay}
use Rattle.snap_front.proofs.laws.bodies_stay.Goals as goal

pub returns : goal.returns
returns c = bodies-stay
