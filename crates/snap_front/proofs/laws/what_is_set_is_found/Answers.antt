use Rattle.snap_front.proofs.Found.{set-found}
use Rattle.snap_front.proofs.laws.what_is_set_is_found.Goals as goal

pub returns : goal.returns
returns c = set-found
