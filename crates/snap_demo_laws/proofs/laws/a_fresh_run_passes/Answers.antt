use Rattle.snap_demo_laws.proofs.Shown.{shows_all}
use Rattle.snap_demo_laws.proofs.laws.a_fresh_run_passes.Goals as goal

pub returns : goal.returns
returns c = shows_all
