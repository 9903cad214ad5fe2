use Rattle.snap_assert_place.proofs.LastPart.{alone, behind}
use Rattle.snap_assert_place.proofs.laws.last_part_is_behind_the_slash.Goals as goal

pub returns : goal.returns
returns c = record { alone = alone; behind = behind }
