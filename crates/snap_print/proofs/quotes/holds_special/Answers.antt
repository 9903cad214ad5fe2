use Rattle.snap_print.proofs.Prelude.{◌∙◌}
use Rattle.snap_print.proofs.Bytes.{special_bytes}
use Rattle.snap_print.proofs.quotes.holds_special.Goals as goal

pub returns : goal.returns
returns c = c.hold_special.ensures ∙ special_bytes c.as_bytes.result.now c.args.text.now c.utf8.text c.as_bytes.ensures.value
