use Rattle.snap_assert_place.proofs.LastName.{whole, behind}
use Rattle.snap_assert_place.proofs.laws.last_name_is_behind_the_colons.Goals as goal

pub returns : goal.returns
returns c = record { alone = whole; behind = behind }
