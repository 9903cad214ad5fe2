use Rattle.snap_mask.proofs.KeptKeys.{kept_keys, masking}
use Rattle.snap_mask.proofs.laws.masked_keys_are_accepted.Goals as goal

pub returns : goal.returns
returns c = λ words rules t spelled within accepted. kept_keys rules t (masking words rules spelled) within accepted
