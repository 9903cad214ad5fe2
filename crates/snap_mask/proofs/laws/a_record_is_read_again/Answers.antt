use Rattle.snap_mask.proofs.KeptKeys.{masking}
use Rattle.snap_mask.proofs.LinesRead.{read_again}
use Rattle.snap_mask.proofs.laws.a_record_is_read_again.Goals as goal

pub returns : goal.returns
returns c = λ words rules t line given spelled json made bounded. read_again rules t line given (masking words rules spelled) json made bounded
