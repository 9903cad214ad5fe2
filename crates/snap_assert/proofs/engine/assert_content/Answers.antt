use Rattle.snap_assert.proofs.Prelude.{IfOk-weaker}
use Rattle.snap_assert.proofs.Refusals.{err_weaker, stops_by}
use Rattle.snap_assert.proofs.engine.assert_content.Goals as goal

pub returns-clause-answered : goal.returns-clause-answered
returns-clause-answered g c = IfOk-weaker c.assert_listed-outcome.result _ _
    (λ outcome h. (h.0, h.1, h.2 (g.S.Store.files c.args.store.now) (λ m told. (told, c.new-listed.ensures m)))) c.assert_listed-outcome.ensures.answered

pub returns-clause-stopped : goal.returns-clause-stopped
returns-clause-stopped g c = err_weaker c.assert_listed-outcome.result
    (λ error h. stops_by (λ printed stops. stops (g.S.Store.files c.args.store.now) (λ m told. (told, c.new-listed.ensures m))) h) c.assert_listed-outcome.ensures.stopped

pub returns-clause-halted : goal.returns-clause-halted
returns-clause-halted g c = err_weaker c.assert_listed-outcome.result
    (λ error h. stops_by (λ printed halts. halts (g.S.Store.files c.args.store.now) (λ m told. (told, c.new-listed.ensures m))) h) c.assert_listed-outcome.ensures.halted
