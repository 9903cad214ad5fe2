use Rattle.snap_assert_place.proofs.Prelude.{chars-ascii}
use Rattle.snap_assert_place.proofs.front.behind_ascii.Goals as goal

pub returns : goal.returns
returns c = rw (chars-ascii c.args.front.now c.requires) at c.behind.ensures
