use Rattle.snap_assert.proofs.Prelude.{IfOk-weaker}
use Rattle.snap_assert.proofs.Printing.{text_held}
use Rattle.snap_assert.proofs.Refusals.{err_weaker}
use Rattle.snap_assert.proofs.file.assert_file.Goals as goal

pub returns-clause-answered : goal.returns-clause-answered
returns-clause-answered g c = IfOk-weaker c.assert_any-outcome.result _ _
    (λ outcome h. h _ (text_held c.args.content _ c.asserted_text.ensures) (g.S.Store.files c.args.store.now) (λ m told. (told, c.new-listed.ensures m))) c.assert_any-outcome.ensures.answered

pub returns-clause-stopped : goal.returns-clause-stopped
returns-clause-stopped g c = err_weaker c.assert_any-outcome.result
    (λ error h. h _ (text_held c.args.content _ c.asserted_text.ensures) (g.S.Store.files c.args.store.now) (λ m told. (told, c.new-listed.ensures m))) c.assert_any-outcome.ensures.stopped

pub returns-clause-kept : goal.returns-clause-kept
returns-clause-kept g c = c.assert_any-outcome.ensures.kept _ (text_held c.args.content _ c.asserted_text.ensures)

pub returns-clause-named : goal.returns-clause-named
returns-clause-named g c = c.assert_any-outcome.ensures.named _ (text_held c.args.content _ c.asserted_text.ensures)

pub returns-clause-halted : goal.returns-clause-halted
returns-clause-halted g c = err_weaker c.assert_any-outcome.result
    (λ error h. h _ (text_held c.args.content _ c.asserted_text.ensures) (g.S.Store.files c.args.store.now) (λ m told. (told, c.new-listed.ensures m))) c.assert_any-outcome.ensures.halted
