use Rattle.snap_demo.proofs.Prelude.{arith}
use Rattle.snap_demo.proofs.Spelled.{cut_again, all_spell}
use Rattle.snap_demo.proofs.laws.the_stream_is_its_requests.Goals as goal

pub returns-clause-cut : goal.returns-clause-cut
returns-clause-cut c = λ seed count below few. cut_again 0 seed count (omega (arith, few)) below

pub returns-clause-spelled : goal.returns-clause-spelled
returns-clause-spelled c = λ seed count below few. all_spell 0 seed count (omega (arith, few)) below
