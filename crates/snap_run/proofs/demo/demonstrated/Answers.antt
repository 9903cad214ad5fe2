use Rattle.snap_run.proofs.Prelude.{sym, ap, ◌∙◌, encode_utf8_all, encodes-chars}
use Rattle.snap_run.proofs.demo.demonstrated.Goals as goal

pub work_on-requires-clause-input : goal.work_on-requires-clause-input
work_on-requires-clause-input g c =
    c.as_bytes.ensures.value ∙ sym (encodes-chars c.as_str.result.now c.as_str.utf8) ∙ ap encode_utf8_all c.as_str.ensures ∙ c.in-Ok-demo_input.ensures
