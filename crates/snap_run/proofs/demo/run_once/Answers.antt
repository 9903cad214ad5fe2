use Rattle.snap_run.proofs.Prelude.{words_of}
use Rattle.snap_run.proofs.Demonstrating.{ran_once, stopped_once, status_once}
use Rattle.snap_run.proofs.demo.run_once.Goals as goal

pub returns-in-Ok-clause-ran : goal.returns-in-Ok-clause-ran
returns-in-Ok-clause-ran g c =
    ran_once c.in-Ok.tally (words_of c.args.runner.now) c.args.words c.args.input.now _ _ _ c.requires.seed c.requires.few c.requires.runner c.requires.input c.new-session.ensures c.in-Ok.ensures.finished

pub returns-clause-stopped : goal.returns-clause-stopped
returns-clause-stopped g c =
    stopped_once c.in-Err.status (words_of c.args.runner.now) c.args.words c.args.input.now _ _ _ c.requires.seed c.requires.few c.requires.runner c.requires.input c.new-session.ensures c.in-Err.ensures.stopped

pub returns-clause-status : goal.returns-clause-status
returns-clause-status g c = status_once c.in-Err.status c.args.words _ _ c.requires.seed c.requires.few (returns-clause-stopped g c) c.in-Err.ensures.sink_count
