use Rattle.snap_explain.proofs.Pages.{run_silent, run_answered}
use Rattle.snap_explain.proofs.front.explain_front.Goals as goal

pub returns-in-Some-clause-run : goal.returns-in-Some-clause-run
returns-in-Some-clause-run g c = run_silent _ _ _ _ c.in-Some.ensures

pub returns-in-None-clause-run : goal.returns-in-None-clause-run
returns-in-None-clause-run g c = run_answered _ _ _ _ _ _ c.in-None.ensures c.explain_source.ensures.leaves c.explain_source.ensures.length
