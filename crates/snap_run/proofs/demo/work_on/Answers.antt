use Rattle.snap_run.proofs.Demonstrating.{err_weaker, run_stops, both_ran}
use Rattle.snap_run.proofs.demo.work_on.Goals as goal

pub returns-in-Ok-clause-stopped : goal.returns-in-Ok-clause-stopped
returns-in-Ok-clause-stopped g c =
    err_weaker c.lines_of_files.result (λ status is. both_ran c.args.words c.in-Ok.passed status _ _ _ c.lines_of_files.ensures.same c.in-Ok.ensures.ran is) c.lines_of_files.ensures.stopped

pub returns-in-Err-clause-stopped : goal.returns-in-Err-clause-stopped
returns-in-Err-clause-stopped g c = run_stops c.in-Err.status c.args.words _ _ c.in-Err.ensures.stopped c.in-Err.ensures.status
