use Rattle.snap_assert.proofs.Looking.{judge_read, judge_refused, all_judged, refused_at}
use Rattle.snap_assert.proofs.Halting.{reading_looks}
use Rattle.snap_assert.proofs.judge.judge_file.Goals as goal

pub returns-in_ok-judged-in-Ok-clause-judged : goal.returns-in_ok-judged-in-Ok-clause-judged
returns-in_ok-judged-in-Ok-clause-judged g c = λ asked prepared m told.
    judge_read _ asked m c.args.prepared.now _ c.in-Ok.old c.in_ok-judged-in-Ok.field-0 prepared told c.in-Ok.ensures.end c.in_ok-judged-in-Ok.ensures

pub returns-in-Err-clause-judged : goal.returns-in-Err-clause-judged
returns-in-Err-clause-judged g c = all_judged _ c.args.prepared.now _ c.refused.result (λ asked prepared m told.
    judge_refused _ asked m c.args.prepared.now _ c.in-Err.error c.refused.result prepared told c.in-Err.ensures.end c.refused.ensures)

pub returns-in-Err-clause-named : goal.returns-in-Err-clause-named
returns-in-Err-clause-named g c = refused_at c.args.prepared.now.path _ c.in-Err.error c.refused.result c.in-Err.ensures.end.comes_to c.refused.ensures

pub returns-in-Err-clause-looked : goal.returns-in-Err-clause-looked
returns-in-Err-clause-looked g c = reading_looks c.args.prepared.now.path _ c.in-Err.error c.refused.result c.in-Err.ensures.end c.refused.ensures
