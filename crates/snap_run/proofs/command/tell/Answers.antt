use Rattle.snap_run.proofs.Prelude.{◌∙◌, sym, ap, encode_utf8_all, encodes-chars}
use Rattle.snap_run.proofs.Messages.{message_is, said}
use Rattle.snap_run.proofs.command.tell.Goals as goal

pub returns-in-Some : goal.returns-in-Some
returns-in-Some g c =
    said c.args.status.now c.as_bytes.result.now c.write_all.result _ _ _ _ (c.as_bytes.ensures.value ∙ c.in-Some.ensures)
    c.write_all.ensures.all c.write_all.ensures.part c.write_all.ensures.cause

pub returns-in-Ok : goal.returns-in-Ok
returns-in-Ok g c =
    said c.args.status.now c.as_bytes-in-Ok.result.now c.write_all-in-Ok.result _ _ _ _
    (c.as_bytes-in-Ok.ensures.value ∙ sym (encodes-chars c.as_str.result.now c.as_str.utf8) ∙ ap encode_utf8_all (c.as_str.ensures ∙ c.in-Ok.ensures)
    ∙ sym (message_is c.args.status.now c.in_default.ensures))
    c.write_all-in-Ok.ensures.all c.write_all-in-Ok.ensures.part c.write_all-in-Ok.ensures.cause
