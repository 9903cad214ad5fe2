use Rattle.std.proofs.Common.{rules}
use Rattle.snap_explain.proofs.Prelude.{refl}
use Rattle.snap_explain.specs.Reasons.IsShown.{no_utf8}
use Rattle.snap_explain.proofs.cause.bad_fault.Goals as goal

pub returns-in-Err : goal.returns-in-Err
returns-in-Err c = no_utf8 c.valid_up_to.result refl (search rules) (search rules)
