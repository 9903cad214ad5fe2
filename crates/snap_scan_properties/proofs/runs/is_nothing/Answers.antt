use Rattle.snap_scan_properties.proofs.Prelude.{◌∙◌}
use Rattle.snap_scan_tokens.proofs.Empties.{nil-text}
use Rattle.snap_scan_properties.proofs.runs.is_nothing.Goals as goal

pub returns : goal.returns
returns c = c.is_empty.ensures ∙ nil-text c.args.text.now c.utf8.text
