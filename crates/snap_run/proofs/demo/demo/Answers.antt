use Rattle.snap_run.proofs.Prelude.{sym, ap, ◌∙◌, encode_utf8_all, encodes-chars}
use Rattle.snap_run.proofs.Demonstrating.{demo_told, demo_stopped}
use Rattle.snap_run.proofs.demo.demo.Goals as goal

pub returns-in-Ok-clause-demonstrated : goal.returns-in-Ok-clause-demonstrated
returns-in-Ok-clause-demonstrated g c =
    demo_told c.tell.result c.args.words c.as_str.result.now c.in-Ok.lines _ _ _ _ (sym (encodes-chars c.as_str.result.now c.as_str.utf8) ∙ ap encode_utf8_all c.as_str.ensures) c.in-Ok.ensures.done c.tell.ensures.told

pub returns-in-Err-clause-demonstrated : goal.returns-in-Err-clause-demonstrated
returns-in-Err-clause-demonstrated g c = demo_stopped c.in-Err.status c.args.words _ _ _ c.in-Err.ensures.stopped
