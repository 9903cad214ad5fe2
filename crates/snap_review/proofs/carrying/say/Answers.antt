use Rattle.snap_review.proofs.Prelude.{◌++◌, Some, refl, ap, ◌∙◌, subst, HoldsFront}
use Rattle.snap_store.proofs.Written.{text_sent}
use Rattle.snap_review.proofs.carrying.say.Goals as goal

pub returns-in-Ok-clause-said : goal.returns-in-Ok-clause-said
returns-in-Ok-clause-said g c = λ w told.
    c.in-Ok.ensures.all w told ∙ ap (λ bytes. Some (w ++ bytes)) (text_sent _ _ _ _ c.as_str.utf8 c.as_str.ensures refl c.as_bytes.ensures.value)

pub returns-in-Err-clause-said : goal.returns-in-Err-clause-said
returns-in-Err-clause-said g c = λ w told.
    subst (λ bytes. HoldsFront bytes w (g.K.Sink.written c.write_all.new.sink)) (text_sent _ _ _ _ c.as_str.utf8 c.as_str.ensures refl c.as_bytes.ensures.value) (c.in-Err.ensures.part w told)
