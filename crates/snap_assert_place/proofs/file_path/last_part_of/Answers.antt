use Rattle.snap_assert_place.proofs.Prelude.{chars}
use Rattle.snap_assert_place.proofs.LastPart.{of_cut}
use Rattle.snap_assert_place.proofs.file_path.last_part_of.Goals as goal

pub returns : goal.returns
returns c = of_cut (chars c.args.path.now) (chars c.last_part.result.now) c.last_part.ensures
