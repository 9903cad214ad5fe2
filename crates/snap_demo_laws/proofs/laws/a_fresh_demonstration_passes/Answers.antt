use Rattle.snap_demo_laws.proofs.Fresh.{passes_all}
use Rattle.snap_demo_laws.proofs.laws.a_fresh_demonstration_passes.Goals as goal

pub returns : goal.returns
returns c = passes_all
