use Rattle.snap_mask.proofs.KeptKeys.{masking}
use Rattle.snap_mask.proofs.Levels.{rules_add_none}
use Rattle.snap_mask.proofs.laws.masking_adds_no_levels.Goals as goal

pub returns : goal.returns
returns c = λ words rules value spelled. rules_add_none rules value (masking words rules spelled)
