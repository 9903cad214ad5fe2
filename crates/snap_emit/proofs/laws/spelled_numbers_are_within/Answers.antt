use Rattle.snap_emit.proofs.ReadTexts.{spelled-within}
use Rattle.snap_emit.proofs.laws.spelled_numbers_are_within.Goals as goal

pub returns : goal.returns
returns c = spelled-within
