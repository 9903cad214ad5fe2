use Rattle.snap_scan_tokens.proofs.Prelude.{ap, ◌∙◌, is_nothing}
use Rattle.snap_scan_tokens.proofs.Empties.{nil-text}
use Rattle.snap_scan_tokens.proofs.folding.is_nothing.Goals as goal

pub returns : goal.returns
returns c = c.is_empty.ensures ∙ nil-text c.as_str.result.now c.as_str.utf8 ∙ ap is_nothing c.as_str.ensures
