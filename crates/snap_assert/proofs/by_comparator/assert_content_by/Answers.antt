use Rattle.snap_assert.proofs.Prelude.{IfOk-weaker}
use Rattle.snap_assert.proofs.Refusals.{err_weaker, stops_by}
use Rattle.snap_assert.proofs.by_comparator.assert_content_by.Goals as goal

pub returns-clause-answered : goal.returns-clause-answered
returns-clause-answered g c = IfOk-weaker c.assert_sorted-outcome.result _ _
    (λ outcome h. (h.0, h.1, h.2 (g.S.Store.files c.args.store.now) (λ m told. (told, c.new-listed.ensures m)))) c.assert_sorted-outcome.ensures.answered

pub returns-clause-stopped : goal.returns-clause-stopped
returns-clause-stopped g c = err_weaker c.assert_sorted-outcome.result
    (λ error h. stops_by (λ printed stops. stops (g.S.Store.files c.args.store.now) (λ m told. (told, c.new-listed.ensures m))) h) c.assert_sorted-outcome.ensures.stopped

pub returns-clause-halted : goal.returns-clause-halted
returns-clause-halted g c = err_weaker c.assert_sorted-outcome.result
    (λ error h. stops_by (λ printed halts. halts (g.S.Store.files c.args.store.now) (λ m told. (told, c.new-listed.ensures m))) h) c.assert_sorted-outcome.ensures.halted
