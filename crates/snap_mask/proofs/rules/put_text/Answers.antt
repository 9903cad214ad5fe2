use Rattle.snap_mask.proofs.RulesRead.{puts_of}
use Rattle.snap_mask.proofs.rules.put_text.Goals as goal

pub returns : goal.returns
returns c = puts_of _ _ _ c.from_content.ensures c.in_ok-text.ensures
