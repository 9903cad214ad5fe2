use Rattle.snap_run.proofs.FlagWords.{flags_meant}
use Rattle.snap_run.proofs.laws.flags_are_what_stands.Goals as goal

pub returns : goal.returns
returns c = flags_meant
