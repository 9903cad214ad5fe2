use Rattle.snap_assert.proofs.Prelude.{refl, inl, inr, IfOk-weaker, on_ok_weaker}
use Rattle.snap_assert.proofs.Refusals.{err_weaker}
use Rattle.snap_assert.proofs.Settling.{kept_unwritten}
use Rattle.snap_assert.proofs.engine.assert_sorted.Goals as goal

pub returns-in-Ok-clause-answered : goal.returns-in-Ok-clause-answered
returns-in-Ok-clause-answered g c =
    IfOk-weaker c.assert_any.result _ _ (λ outcome h. (c.in-Ok.ensures.0, c.in-Ok.ensures.1, h _ c.in-Ok.ensures.2)) c.assert_any.ensures.answered

pub returns-in-Ok-clause-stopped : goal.returns-in-Ok-clause-stopped
returns-in-Ok-clause-stopped g c =
    err_weaker c.assert_any.result (λ error h. inr (c.in-Ok.ensures.0, c.in-Ok.ensures.1, h _ c.in-Ok.ensures.2)) c.assert_any.ensures.stopped

pub returns-in-Ok-clause-covered : goal.returns-in-Ok-clause-covered
returns-in-Ok-clause-covered g c = on_ok_weaker c.assert_any.result (λ h. h _ c.in-Ok.ensures.2 refl) c.assert_any.ensures.covered

pub returns-in-Ok-clause-kept : goal.returns-in-Ok-clause-kept
returns-in-Ok-clause-kept g c = c.assert_any.ensures.kept _ c.in-Ok.ensures.2

pub returns-in-Ok-clause-named : goal.returns-in-Ok-clause-named
returns-in-Ok-clause-named g c = c.assert_any.ensures.named _ c.in-Ok.ensures.2

pub returns-in-Err-clause-stopped : goal.returns-in-Err-clause-stopped
returns-in-Err-clause-stopped g c = inl (refl, refl)

pub returns-in-Err-clause-kept : goal.returns-in-Err-clause-kept
returns-in-Err-clause-kept g c = λ named is. kept_unwritten _ _ _ _ refl

pub returns-in-Ok-clause-halted : goal.returns-in-Ok-clause-halted
returns-in-Ok-clause-halted g c =
    err_weaker c.assert_any.result (λ error h. inr (c.in-Ok.ensures.0, c.in-Ok.ensures.1, h _ c.in-Ok.ensures.2)) c.assert_any.ensures.halted

pub returns-in-Err-clause-halted : goal.returns-in-Err-clause-halted
returns-in-Err-clause-halted g c = inl (refl, refl)
