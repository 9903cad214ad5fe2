use Rattle.snap_run.specs.Demonstrations.StopsIn.{in_second}
use Rattle.snap_run.proofs.Demonstrating.{err_weaker}
use Rattle.snap_run.proofs.demo.run_twice.Goals as goal

pub returns-in-Ok-clause-stopped : goal.returns-in-Ok-clause-stopped
returns-in-Ok-clause-stopped g c = err_weaker c.run_once-in-Ok.result (λ status stop. in_second _ c.in-Ok.ensures.ran stop) c.run_once-in-Ok.ensures.stopped
