use Rattle.snap_explain_review.proofs.Prelude.{◌++◌, ◌∙◌, Some, sym, ap, subst, HoldsFront, encode_utf8_all}
use Rattle.std.proofs.lemmas.Str.{encodes-chars}
use Rattle.snap_explain_review.proofs.telling.say.Goals as goal

pub returns-in-Ok-clause-said : goal.returns-in-Ok-clause-said
returns-in-Ok-clause-said g c = λ w e.
    let text = ap encode_utf8_all (sym c.as_str.ensures) ∙ encodes-chars c.as_str.result.now c.as_str.utf8 ∙ sym c.as_bytes.ensures.value in
    c.in-Ok.ensures.all w e ∙ ap (λ t. Some (w ++ t)) (sym text)

pub returns-in-Err-clause-said : goal.returns-in-Err-clause-said
returns-in-Err-clause-said g c = λ w e.
    let text = ap encode_utf8_all (sym c.as_str.ensures) ∙ encodes-chars c.as_str.result.now c.as_str.utf8 ∙ sym c.as_bytes.ensures.value in
    subst (λ t. HoldsFront t w (g.K.Sink.written c.write_all.new.sink)) (sym text) (c.in-Err.ensures.part w e)
