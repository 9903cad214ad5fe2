use Rattle.snap_emit.proofs.KeptNumbers.{kept-among}
use Rattle.snap_emit.proofs.laws.kept_numbers_stand_among_events.Goals as goal

pub returns : goal.returns
returns c = kept-among
