use Rattle.snap_assert.proofs.Prelude.{refl, inl, inr, IfOk-weaker}
use Rattle.snap_assert.proofs.Refusals.{err_weaker}
use Rattle.snap_assert.proofs.preview.preview_content.Goals as goal

pub returns-in-Ok-clause-previewed : goal.returns-in-Ok-clause-previewed
returns-in-Ok-clause-previewed g c =
    IfOk-weaker c.preview_any.result _ _ (λ preview h. (c.in-Ok.ensures.0, c.in-Ok.ensures.1, h _ c.in-Ok.ensures.2)) c.preview_any.ensures.previewed

pub returns-in-Ok-clause-stopped : goal.returns-in-Ok-clause-stopped
returns-in-Ok-clause-stopped g c =
    err_weaker c.preview_any.result (λ error h. inr (c.in-Ok.ensures.0, c.in-Ok.ensures.1, h _ c.in-Ok.ensures.2)) c.preview_any.ensures.stopped

pub returns-in-Err-clause-stopped : goal.returns-in-Err-clause-stopped
returns-in-Err-clause-stopped g c = inl (refl, refl)
