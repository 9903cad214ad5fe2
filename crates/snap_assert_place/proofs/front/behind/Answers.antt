use Rattle.snap_assert_place.proofs.Prelude.{chars}
use Rattle.snap_path.proofs.Cuts.{past_mark-stripped}
use Rattle.snap_assert_place.proofs.front.behind.Goals as goal

pub returns : goal.returns
returns c = past_mark-stripped (chars c.args.front.now) (chars c.args.text.now) c.strip_prefix.result c.strip_prefix.ensures
