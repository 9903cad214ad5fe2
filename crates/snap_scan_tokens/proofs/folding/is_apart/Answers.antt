use Rattle.snap_scan_tokens.proofs.Prelude.{ap, not}
use Rattle.snap_scan_tokens.proofs.Empties.{same-length}
use Rattle.snap_scan_tokens.proofs.folding.is_apart.Goals as goal

pub returns : goal.returns
returns c = ap not (same-length c.args.text.now c.args.rest.now c.utf8.text c.utf8.rest c.requires)
