use Rattle.snap_review.proofs.Prelude.{refl, subst, changes_of, WorkEnd}
use Rattle.snap_review.proofs.FilePlanning.{run_unplanned, run_worked}
use Rattle.snap_review.proofs.reviewing.run.Goals as goal

pub returns-in-Err-clause-end : goal.returns-in-Err-clause-end
returns-in-Err-clause-end g c = run_unplanned c.args.request.now.target c.args.request.now c.in-Err.status _ _ _ _ c.in-Err.ensures.end c.in-Err.ensures.same refl

pub returns-in-Ok-clause-end : goal.returns-in-Ok-clause-end
returns-in-Ok-clause-end g c =
    let request = c.args.request.now in
    let plan = c.in-Ok.plan in
    run_worked request.target request plan c.carry_out-status.result _ _ _ _ c.in-Ok.ensures.end
    (subst
    (λ files. WorkEnd (changes_of request plan) plan.lines c.carry_out-status.result files (g.S.Store.files c.carry_out-status.new.store) (g.K.Sink.written c.args.sink.now) (g.K.Sink.written c.carry_out-status.new.sink))
    c.in-Ok.ensures.same c.carry_out-status.ensures.end)
