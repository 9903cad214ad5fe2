use Rattle.snap_run.proofs.Statuses.{none_fails}
use Rattle.snap_run.proofs.laws.nothing_fails_in_place.Goals as goal

pub returns : goal.returns
returns c = none_fails
